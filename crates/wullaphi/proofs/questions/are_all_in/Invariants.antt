use Rattle.std.proofs.Common.{◌≡◌, ℕ, ◌<◌, true}
use Rattle.std.specs.FinSet as set
use Rattle.wcp_clock.specs.ProcessNumbers.{AreProcessNumbers}
use Rattle.wullaphi.proofs.questions.are_all_in.Given as goal

abbrev pub invariant-loop-p : goal.invariant-loop-p
invariant-loop-p l = record {
  few : 0 < l.p → AreProcessNumbers l.these;
  all : (q : ℕ) → q < l.p → set.contains l.these q ≡ true → set.contains l.those q ≡ true;
}
