use Rattle.std.proofs.Common.{◌≡◌, ℕ}
use Rattle.std.specs.FinSet as set
use Rattle.std.specs.Prelude.{nat_lt}
use Rattle.wcp_clock.proofs.process_set.ProcessSet.all.Given as goal

abbrev pub invariant-loop-p : goal.invariant-loop-p
invariant-loop-p l = (q : ℕ) → set.contains l.all q ≡ nat_lt q l.p
