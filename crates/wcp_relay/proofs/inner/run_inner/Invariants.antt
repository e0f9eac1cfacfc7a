use Rattle.wcp_relay.proofs.Words.{◌≡◌, ℕ, true, AreProcessNumbers, items_of, IsInnerAtWork, IsSameOutlet, IsSameTaker}
use Rattle.wcp_relay.proofs.Words.{AreEnded}
use Rattle.std.specs.FinSet as set
use Rattle.wcp_relay.proofs.inner.run_inner.Given as goal

abbrev pub invariant-loop : goal.invariant-loop
invariant-loop g l =
    record {
      goes_on : (goal.iterator-loop g).can_next l.iterator';
      ends : (goal.iterator-loop g).is_finite l.iterator';
      work : IsInnerAtWork l.taker l.outlet;
      taker : IsSameTaker l.initial.taker l.taker;
      outlet : IsSameOutlet l.initial.outlet l.outlet;
      below : l.below ≡ l.outlet.putter.members;
      within : AreProcessNumbers l.below;
      ended : AreEnded l.ended (λ p. items_of p l.taker.taken);
      finished : l.finished ≡ true → (p : ℕ) → set.contains l.below p ≡ true → set.contains l.ended p ≡ true;
    }
