use Rattle.std.proofs.Common.{◌≡◌, ◌≢◌, ◌<◌, ℕ, false, length}
use Rattle.trace_explain.specs.Left.{is_over}
use Rattle.trace_explain.proofs.elimination.first_over.Given as goal

abbrev pub invariant-loop-place : goal.invariant-loop-place
invariant-loop-place l = (p q : ℕ) → p < l.place → q < length l.left → q ≢ p → is_over l.left p q ≡ false
