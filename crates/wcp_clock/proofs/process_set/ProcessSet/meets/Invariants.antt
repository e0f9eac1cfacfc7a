use Rattle.std.proofs.Common.{◌≡◌, ℕ, ◌<◌, true}
use Rattle.wcp_clock.specs.ProcessNumbers.{AreProcessNumbers}
use Rattle.std.specs.FinSet as set
use Rattle.wcp_clock.proofs.process_set.ProcessSet.meets.Given as goal

abbrev pub invariant-loop-p : goal.invariant-loop-p
invariant-loop-p l = record {
  within : 0 < l.p → AreProcessNumbers l.self;
  apart : (q : ℕ) → q < l.p → set.contains l.self q ≡ true → set.contains l.other q ≡ true → ⊥;
}
