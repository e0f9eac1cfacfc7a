use Rattle.std.proofs.Common.{◌≡◌, take}
use Rattle.trace_spelling.specs.Windows.{joined, seen_waits}
use Rattle.trace_spelling.proofs.waiting.joined.Given as goal

abbrev pub invariant-loop-one : goal.invariant-loop-one
invariant-loop-one l = l.text.items ≡ joined (seen_waits (take l.one-index l.waits))
