use Rattle.std.proofs.Common.{◌≡◌, ◌++◌, drop}
use Rattle.std.specs.Prelude.{string_bytes}
use Rattle.trace_explain.specs.Texts.{numbered, state_of}
use Rattle.trace_explain.specs.Views.{watched_by}
use Rattle.trace_explain.proofs.history.History.push_states.Given as goal

abbrev pub invariant-loop-place : goal.invariant-loop-place
invariant-loop-place l = string_bytes l.text ++ numbered (state_of (watched_by l.self)) l.place (drop l.place l.held)
    ≡ string_bytes l.fn.text ++ numbered (state_of (watched_by l.self)) 0 l.held
