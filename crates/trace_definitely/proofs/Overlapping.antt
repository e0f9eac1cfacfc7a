-- Where runs overlap, the conditions hold somewhere along each order.
use Rattle.std.proofs.Common.{◌≡◌, ap, ℕ, ◌-◌, ◌<◌, ◌≤◌, inl, inr, List, [], ◌∷◌}
use Rattle.std.proofs.Common.{arith, ⊎_elim}
use Rattle.std.proofs.lemmas.Bool.{cases_eq, cases_lt}
use Rattle.trace_definitely.specs.Events.{AllHold, Cut, Events, HoldsAlong, IsOrderFrom, with_next}
use Rattle.trace_definitely.specs.Definitely.{AreOverlapping}
use Rattle.trace_definitely.proofs.Cuts.{next_own, next_other}

module _ (events : Events) (from until : ℕ → ℕ) (overlap : AreOverlapping events from until) where
  -- All have begun, and none is over.
  all_hold : (cut : Cut) → ((p : ℕ) → p < events.hosts → (from p < cut p) × (cut p ≤ until p)) → AllHold events cut
  all_hold cut between p within =
      let at = between p within in
      (omega (arith, at.0), (overlap.runs p within).holds (cut p - 1) (omega (arith, at.0)) (omega (arith, at.0, at.1)))

  pub along : (cut : Cut) (order : List ℕ) → IsOrderFrom events cut order
      → ((p : ℕ) → p < events.hosts → cut p ≤ until p) → HoldsAlong events cut order
  along cut [] is before =
      all_hold cut (λ p within.
      let run = overlap.runs p within in
      (omega (arith, is p within, run.some, run.within), before p within))
  along cut (p ∷ order) is before =
      ⊎_elim
      (λ (goes_on : cut p < until p). inr (along (with_next cut p) order is.1 (λ q within.
      ⊎_elim
      (λ (same : q ≡ p). omega (arith, next_own cut p q same, goes_on, ap cut same, ap until same))
      (λ (isnt : q ≡ p → ⊥). omega (arith, next_other cut p q isnt, before q within))
      (cases_eq q p))))
      (λ (over : until p ≤ cut p).
      let at : cut p ≡ until p = omega (arith, over, before p is.0.host) in
      inl (all_hold cut (λ q within.
      ⊎_elim
      (λ (same : q ≡ p).
      let begun = (overlap.runs p is.0.host).some in
      (omega (arith, begun, at, ap from same, ap cut same), before q within))
      (λ (isnt : q ≡ p → ⊥).
      let met = overlap.meet q p within is.0.host isnt (omega (arith, at, is.0.more)) in
      let known = is.0.known q within isnt in
      let met_here : from q < events.knows p (cut p) q = rw at met in
      (omega (arith, met_here, known), before q within))
      (cases_eq q p))))
      (cases_lt (cut p) (until p))
