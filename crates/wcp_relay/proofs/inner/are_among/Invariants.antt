use Rattle.wcp_relay.proofs.Words.{◌≡◌, ℕ, ◌<◌, true, AreProcessNumbers}
use Rattle.std.specs.FinSet as set
use Rattle.wcp_relay.proofs.inner.are_among.Given as goal

abbrev pub invariant-loop-p : goal.invariant-loop-p
invariant-loop-p l =
    record {
      below : (q : ℕ) → q < l.p → set.contains l.members q ≡ true → set.contains l.all q ≡ true;
      within : 0 < l.p → AreProcessNumbers l.members;
    }
