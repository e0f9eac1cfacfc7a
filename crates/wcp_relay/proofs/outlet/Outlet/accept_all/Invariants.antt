use Rattle.wcp_relay.proofs.Words.{◌≡◌, ◌++◌, ℕ, List, None, take, IfNone, Item, items_of, handed, IsFaithful, IsSound}
use Rattle.wcp_relay.proofs.Words.{IsSameOutlet}
use Rattle.wcp_relay.proofs.outlet.Outlet.accept_all.Given as goal

abbrev pub invariant-loop-item : goal.invariant-loop-item
invariant-loop-item g l =
    record {
      same : IsSameOutlet l.initial.self l.self;
      sound : IsSound l.self;
      handed : IfNone l.self.cut
          ((l.initial.self.cut ≡ None) × (handed l.self ≡ handed l.initial.self ++ take l.item-index l.items));
      faithful : (taken : ℕ → List Item) → IsFaithful taken l.initial.self
          → IsFaithful (λ p. taken p ++ items_of p (take l.item-index l.items)) l.self;
    }
