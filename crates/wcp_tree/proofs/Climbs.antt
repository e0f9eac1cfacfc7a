-- The climbs from relays to the root.
use Rattle.wcp_tree.proofs.Words.{◌≡◌, ◌≢◌, ℕ, zero, suc, length, get_or, ◌<◌, ◌≤◌, ◌⊎◌, ◌↔◌, IsTrue, nat_eq, eqb-true}
use Rattle.wcp_tree.proofs.Words.{eq-eqb, Some, refl, sym, ap, subst, ◌∙◌, inl, inr, ⊎_elim, arith, cases_eq}
use Rattle.wcp_tree.proofs.Words.{slice_get-get_or, Parent, Root, Relay, Plan, IsCheckedPlan, parent_of, IsMetFrom}
use Rattle.wcp_tree.proofs.Words.{Itself, Above, IsBelow, parent_below}

module _ (plan : Plan) (checked : IsCheckedPlan plan) where
  -- a climb goes down in number
  pub met_at_or_below : (relay from : ℕ) → IsMetFrom plan relay from → relay ≤ from
  met_at_or_below relay from Itself = omega arith
  met_at_or_below relay from (Above {parent = parent} at met) =
      omega (arith, parent_below plan checked from parent at, met_at_or_below relay parent met)

  -- at or below a relay, only the climb from that relay meets it
  pub met_below_itself : (relay from : ℕ) → from ≤ relay → IsTrue (nat_eq from relay) ↔ IsMetFrom plan relay from
  met_below_itself relay from low = (
    (λ same. subst (IsMetFrom plan relay) (sym (eqb-true from relay same)) Itself),
    (λ met. let least = met_at_or_below relay from met in eq-eqb from relay (omega arith)),
  )

  -- what a climb meets, the climb from a lower relay meets too
  pub met_from_parent : (relay from parent : ℕ) → relay ≢ from → parent_of plan from ≡ Some (Relay parent)
      → IsMetFrom plan relay from → IsMetFrom plan relay parent
  met_from_parent relay from parent other at Itself = absurd (other refl)
  met_from_parent relay from parent other at (Above {parent = above} is met) =
      let same : above ≡ parent = cc in subst (IsMetFrom plan relay) same met

  pub met_above : (relay from parent : ℕ) → relay < from → parent_of plan from ≡ Some (Relay parent)
      → IsMetFrom plan relay parent ↔ IsMetFrom plan relay from
  met_above relay from parent lower at = (
    (λ met. Above at met),
    (λ met. met_from_parent relay from parent (λ e. omega arith) at met),
  )

  -- a climb from below the root's children goes on
  pub not_met_from_root : (relay from : ℕ) → relay ≢ from → parent_of plan from ≡ Some Root → IsMetFrom plan relay from
      → ⊥
  not_met_from_root relay from other at Itself = other refl
  not_met_from_root relay from other at (Above {parent = above} is met) = cc

  -- of two relays that one climb meets, one is met from the other
  pub one_is_met : (one other from : ℕ) → IsMetFrom plan one from → IsMetFrom plan other from
      → IsMetFrom plan one other ⊎ IsMetFrom plan other one
  one_is_met one other from Itself met = inr met
  one_is_met one other from (Above {parent = parent} at met) Itself = inl (Above at met)
  one_is_met one other from (Above {parent = parent} at met) (Above {parent = parent'} at' met') =
      let same : parent' ≡ parent = cc in
      one_is_met one other parent met (subst (IsMetFrom plan other) same met')

  -- a relay isn't met from another that has the same parent
  apart_from : (one other : ℕ) (owner : Parent) → parent_of plan one ≡ Some owner → parent_of plan other ≡ Some owner
      → one ≢ other → IsMetFrom plan one other → ⊥
  apart_from one other Root at at' apart met = not_met_from_root one other apart at' met
  apart_from one other (Relay parent) at at' apart met =
      let lower = parent_below plan checked one parent at in
      omega (arith, lower, met_at_or_below one parent (met_from_parent one other parent apart at' met))

  -- siblings are apart
  pub siblings_apart : (one other p : ℕ) (owner : Parent) → parent_of plan one ≡ Some owner
      → parent_of plan other ≡ Some owner → one ≢ other → IsBelow plan one p → IsBelow plan other p → ⊥
  siblings_apart one other p owner at at' apart (leaf, is, met) (leaf', is', met') =
      let same : leaf' ≡ leaf = cc in
      grind (
        arith,
        one_is_met one other leaf met (subst (IsMetFrom plan other) same met'),
        apart,
        apart_from one other owner at at',
        apart_from other one owner at' at,
      )

  -- a relay that is met from another is the parent of one on the way
  pub child_is_met : (relay from : ℕ) → relay ≢ from → IsMetFrom plan relay from
      → (child : ℕ) × (parent_of plan child ≡ Some (Relay relay)) × IsMetFrom plan child from
  child_is_met relay from other Itself = absurd (other refl)
  child_is_met relay from other (Above {parent = parent} at met) = ⊎_elim
      (λ (same : relay ≡ parent). (from, at ∙ ap (λ r. Some (Relay r)) (sym same), Itself))
      (λ (apart : relay ≢ parent).
      let child = child_is_met relay parent apart met in (child.0, child.1, Above at child.2))
      (cases_eq relay parent)

  -- each climb meets a relay under the root
  pub root_is_reached : (bound from : ℕ) → from < bound → from < length plan.parents.items
      → (child : ℕ) × (parent_of plan child ≡ Some Root) × IsMetFrom plan child from
  root_is_reached zero from below within = absurd (omega (arith, below))
  root_is_reached (suc bound) from below within =
      by_owner
      (λ parent lower. root_is_reached bound parent (omega (arith, lower, below)) (omega (arith, lower, within)))
      (get_or plan.parents.items from Root) (slice_get-get_or plan.parents.items from Root within)
    where
      by_owner : ((parent : ℕ) → parent < from → (child : ℕ) × (parent_of plan child ≡ Some Root)
          × IsMetFrom plan child parent)
          → (owner : Parent) → parent_of plan from ≡ Some owner
          → (child : ℕ) × (parent_of plan child ≡ Some Root) × IsMetFrom plan child from
      by_owner above Root at = (from, at, Itself)
      by_owner above (Relay parent) at =
          let top = above parent (parent_below plan checked from parent at) in (top.0, top.1, Above at top.2)
