use Rattle.std.proofs.Common.{◌≡◌, ◌++◌, drop}
use Rattle.std.specs.Prelude.{string_bytes}
use Rattle.trace_explain.specs.Texts.{known_lines, known_of, numbered}
use Rattle.trace_explain.specs.Views.{watched_by}
use Rattle.trace_explain.proofs.history.History.push_known.Given as goal

abbrev pub invariant-loop-other : goal.invariant-loop-other
invariant-loop-other l = string_bytes l.text
    ++ numbered (known_of (watched_by l.self) l.place l.held.line) l.other (drop l.other l.held.knows.items)
    ≡ string_bytes l.fn.text ++ known_lines (watched_by l.self) l.place l.held
