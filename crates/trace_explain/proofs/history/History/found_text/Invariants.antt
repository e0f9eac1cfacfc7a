use Rattle.std.proofs.Common.{◌≡◌, ◌++◌, drop}
use Rattle.std.specs.Prelude.{string_bytes}
use Rattle.trace_explain.specs.Texts.{found_text, known_lines, numbered}
use Rattle.trace_explain.specs.Views.{watched_by}
use Rattle.trace_explain.proofs.history.History.found_text.Given as goal

abbrev pub invariant-loop-place : goal.invariant-loop-place
invariant-loop-place l = string_bytes l.text ++ numbered (known_lines (watched_by l.self)) l.place (drop l.place l.held)
    ≡ found_text (watched_by l.self) l.held
