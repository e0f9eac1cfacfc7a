use Rattle.std.proofs.Common.{◌<◌, ℕ, length}
use Rattle.trace_explain.specs.Left.{left_at}
use Rattle.trace_explain.proofs.elimination.first_without.Given as goal

abbrev pub invariant-loop-place : goal.invariant-loop-place
invariant-loop-place l = (p : ℕ) → p < l.place → (left_at l.left p).front < length (left_at l.left p).host.events
