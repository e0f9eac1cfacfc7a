-- Orders along which the conditions never hold at once.
use Rattle.std.proofs.Common.{ℕ, ◌<◌, List, ◌∷◌, arith, ⊎_elim}
use Rattle.trace_definitely.specs.Events.{AllHold, AreOrdered, CanComeNext, Cut, Events, HoldsAlong}
use Rattle.trace_definitely.specs.Events.{IsOrderFrom, with_next}
use Rattle.trace_definitely.proofs.Cuts.{IsClosed, IsSame, along_same, next_rises, order_same}
use Rattle.trace_definitely.proofs.Orders.{IsBelow, so_below}

module _ (events : Events) (is : AreOrdered events) where
  -- From a cut on there is an order along which they don't.
  pub record Avoids (cut : Cut) : Type 0 where
    pub order : List ℕ
    pub is_order : IsOrderFrom events cut order
    pub never : HoldsAlong events cut order → ⊥

  pub avoids_same : (cut other : Cut) → IsSame events cut other → Avoids cut → Avoids other
  avoids_same cut other same avoids = record {
    order = avoids.order;
    is_order = order_same events cut other avoids.order same avoids.is_order;
    never = λ along. avoids.never (along_same events cut other avoids.order same along);
  }

  -- Where the conditions hold at no cut between two, an order that avoids from the second does so from the first.
  pub extended : (cut target : Cut) → IsClosed events cut → IsClosed events target → IsBelow events is cut target
      → ((other : Cut) → IsBelow events is cut other → IsBelow events is other target → AllHold events other → ⊥)
      → Avoids target → Avoids cut
  extended cut target closed closed_target below never avoids =
      so_below events is target closed_target (λ at. IsBelow events is cut at → Avoids at) same step (λ above. avoids)
      cut closed below (λ p within. omega arith)
    where
      same : (at other : Cut) → IsSame events at other → (IsBelow events is cut at → Avoids at)
          → IsBelow events is cut other → Avoids other
      same at other is_same so above =
          avoids_same at other is_same (so (λ p within. omega (arith, above p within, is_same p within)))

      step : (at : Cut) (p : ℕ) → IsBelow events is at target → at p < target p → CanComeNext events at p
          → (IsBelow events is cut (with_next at p) → Avoids (with_next at p)) → IsBelow events is cut at → Avoids at
      step at p below_target less can so above =
          let more = so (λ q within. omega (arith, above q within, next_rises at p q)) in
          record {
            order = p ∷ more.order;
            is_order = (can, more.is_order);
            never = λ along. ⊎_elim
                (λ (all : AllHold events at). never at above below_target all)
                (λ (later : HoldsAlong events (with_next at p) more.order). more.never later)
                along;
          }
