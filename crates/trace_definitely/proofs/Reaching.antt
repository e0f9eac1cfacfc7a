-- Orders along which the conditions hold at once.
use Rattle.std.proofs.Common.{◌≡◌, ◌↔◌, sym, ◌∙◌, ap, ℕ, ◌+◌, ◌-◌, inl, inr, List, [], ◌∷◌, arith}
use Rattle.std.proofs.Common.{⊎_elim}
use Rattle.std.proofs.Common.{refl}
use Rattle.std.proofs.lemmas.Bool.{cases_eq}
use Rattle.trace_definitely.specs.Events.{AllHold, AreOrdered, Cut, Events, HoldsAlong}
use Rattle.trace_definitely.specs.Events.{IsEvent, IsOrderFrom, none_yet, with_next}
use Rattle.trace_definitely.specs.Definitely.{IsMomentAmong, Possibly}
use Rattle.trace_definitely.proofs.Cuts.{IsClosed, along_same, next_closed, order_same}
use Rattle.trace_definitely.proofs.Orders.{so_below}

module _ (events : Events) (is : AreOrdered events) where
  -- Where all conditions hold, the last events of the hosts are a moment.
  moment_at : (cut : Cut) → IsClosed events cut → AllHold events cut → IsMomentAmong events (λ p. cut p - 1)
  moment_at cut closed all = record {
    within = λ p within. omega (arith, (all p within).0, closed.within p within);
    holds = λ p within. (all p within).1;
    not_over = λ p q p_host q_host isnt. omega (
      arith,
      closed.known p (cut p - 1) q p_host q_host (omega (arith, (all p p_host).0)),
      (all q q_host).0,
    );
  }

  moment_along : (cut : Cut) (order : List ℕ) → IsClosed events cut → IsOrderFrom events cut order
      → HoldsAlong events cut order → (at : ℕ → ℕ) × IsMomentAmong events at
  moment_along cut [] closed ordered along = (λ p. cut p - 1, moment_at cut closed along)
  moment_along cut (p ∷ order) closed ordered along =
      ⊎_elim
      (λ (all : AllHold events cut). (λ p. cut p - 1, moment_at cut closed all))
      (λ (later : HoldsAlong events (with_next cut p) order).
      moment_along (with_next cut p) order (next_closed events is cut p closed ordered.0) ordered.1 later)
      along

  -- From each cut there is an order to the last events.
  abbrev HasOrder : Cut → Type 0
  HasOrder cut = (order : List ℕ) × IsOrderFrom events cut order

  has_order : (cut : Cut) → IsClosed events cut → HasOrder cut
  has_order cut closed =
      so_below events is events.count
      (record {
        within = λ p within. omega arith;
        known = λ p k q p_host q_host before. is.within p k q (p_host, before) q_host;
      })
      HasOrder
      (λ at other same has. (has.0, order_same events at other has.0 same has.1))
      (λ at p below less can has. (p ∷ has.0, (can, has.1)))
      ([], λ p within. refl) cut closed closed.within

  -- From a cut there is an order along which they hold.
  abbrev pub Reaches : Cut → Type 0
  Reaches cut = (order : List ℕ) × IsOrderFrom events cut order × HoldsAlong events cut order

  holds_here : (cut : Cut) (order : List ℕ) → AllHold events cut → HoldsAlong events cut order
  holds_here cut [] all = all
  holds_here cut (p ∷ order) all = inl all

  -- The events up to those of a moment have happened: its conditions hold.
  module _ (at : ℕ → ℕ) (moment : IsMomentAmong events at) where
    with_moment : Cut
    with_moment p = at p + 1

    moment_closed : IsClosed events with_moment
    unfolding with_moment
    moment_closed = record {
      within = λ p within. omega (arith, moment.within p within);
      known = λ p k q p_host q_host before.
          let last : IsEvent events p (at p) = (p_host, moment.within p p_host) in
          let up_to = is.passes_on p (at p) p k q last p_host q_host (omega (arith, before, is.itself p (at p) last)) in
          ⊎_elim
          (λ (same : p ≡ q).
          let event : IsEvent events p k = (p_host, omega (arith, before, moment.within p p_host)) in
          let own : events.knows p k q ≡ k + 1 = rw (← same) (is.itself p k event) in
          omega (arith, own, before, ap at same))
          (λ (isnt : p ≡ q → ⊥). omega (arith, up_to, moment.not_over p q p_host q_host isnt))
          (cases_eq p q);
    }

    moment_holds : AllHold events with_moment
    unfolding with_moment
    moment_holds p within =
        let here : at p + 1 - 1 ≡ at p = omega arith in
        (omega arith, ap (events.holds p) here ∙ moment.holds p within)

    reached : Reaches none_yet
    reached =
        let rest = has_order with_moment moment_closed in
        so_below events is with_moment moment_closed Reaches
        (λ cut other same reaches. (
          reaches.0,
          order_same events cut other reaches.0 same reaches.1,
          along_same events other cut reaches.0 (λ p within. sym (same p within)) reaches.2,
        ))
        (λ cut p below less can reaches. (p ∷ reaches.0, (can, reaches.1), inr reaches.2))
        (rest.0, rest.1, holds_here with_moment rest.0 moment_holds)
        none_yet
        (record {
          within = λ p within. omega arith;
          known = λ p k q p_host q_host before. absurd (omega (arith, before));
        })
        (λ p within. omega arith)

  pub possible_at : Possibly events ↔ ((at : ℕ → ℕ) × IsMomentAmong events at)
  possible_at = (
    λ possibly. moment_along none_yet possibly.0 (record {
      within = λ p within. omega arith;
      known = λ p k q p_host q_host before. absurd (omega (arith, before));
    }) possibly.1 possibly.2,
    λ moment. reached moment.0 moment.1,
  )
