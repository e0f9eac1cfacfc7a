use Rattle.std.proofs.Common.{◌≡◌, ◌≢◌, ◌<◌, ℕ, false}
use Rattle.trace_explain.specs.Left.{is_over}
use Rattle.trace_explain.proofs.elimination.over_at.Given as goal

abbrev pub invariant-loop-at : goal.invariant-loop-at
invariant-loop-at l = (q : ℕ) → q < l.at → q ≢ l.place → is_over l.left l.place q ≡ false
