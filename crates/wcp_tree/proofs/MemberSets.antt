-- The sets of a lane: they are apart, and together they are the processes below the owner's children.
use Rattle.wcp_tree.proofs.Words.{◌≡◌, ◌≢◌, ◌⊎◌, ℕ, ◌<◌, true, List, [], ◌∷◌, ◌++◌, length, map, get_or, Some, refl}
use Rattle.wcp_tree.proofs.Words.{sym, ap, ◌∙◌, inl, inr, arith, common_steps, nat_cmp, list_any, slice_get, cases_eq}
use Rattle.wcp_tree.proofs.Words.{get_or_push, get_or_append_left, length_push, Any-from_list_any, list_any_at}
use Rattle.wcp_tree.proofs.Words.{slice_get_within, slice_get-get_or, Parent, Root, Relay, Plan, IsCheckedPlan}
use Rattle.wcp_tree.proofs.Words.{parent_of, Item, LaneName, PutEnd, new_putter, AreApart, Numbers, Bundle, IsBelow}
use Rattle.wcp_tree.proofs.Words.{IsMemberSetOf, AreMemberSetsOf, AreBelowChildren, IsSeatOf}
use Rattle.std.specs.FinSet as set
use Rattle.wcp_relay.proofs.Entries.{mapped_at}
use Rattle.wcp_tree.proofs.Climbs.{siblings_apart}

-- two owners are one, or they aren't
same_or_other : (a b : Parent) → (a ≡ b) ⊎ (a ≢ b)
same_or_other Root Root = inl refl
same_or_other Root (Relay s) = inr (λ e. cc)
same_or_other (Relay r) Root = inr (λ e. cc)
same_or_other (Relay r) (Relay s) = grind (arith, cases_eq r s)

module _ (plan : Plan) (owner : Parent) where
  pub one_member_set_more : (sets : List Numbers) (relay : ℕ) (member_set : Numbers) → length sets ≡ relay
      → AreMemberSetsOf plan owner sets → IsMemberSetOf plan owner relay member_set
      → AreMemberSetsOf plan owner (sets ++ member_set ∷ [])
  one_member_set_more sets relay member_set count each here = λ k d below.
      grind (
        arith,
        common_steps,
        count,
        below,
        here,
        each k d,
        get_or_push sets member_set d k,
        get_or_append_left sets (member_set ∷ []) d k,
        length_push sets member_set,
        cases_eq k (length sets),
      )

  module _ (checked : IsCheckedPlan plan) (sets : List Numbers) (count : length sets ≡ length plan.parents.items)
      (each : AreMemberSetsOf plan owner sets) where
    -- whose set has a process, is a child of the owner, and the process is below it
    of_child : (relay : ℕ) (d : Numbers) (p : ℕ) → relay < length sets
        → set.contains (get_or sets relay d) p ≡ true
        → (parent_of plan relay ≡ Some owner) × IsBelow plan relay p
    of_child relay d p within has =
        let at : parent_of plan relay ≡ Some (get_or plan.parents.items relay Root) =
        slice_get-get_or plan.parents.items relay Root (omega (arith, count, within)) in
        grind (
          arith,
          common_steps,
          at,
          has,
          set.contains-empty nat_cmp p,
          (each relay d within).child,
          (each relay d
              within).other,
          same_or_other (get_or plan.parents.items relay Root) owner,
        )

    -- the ends of such a lane are the children's seats
    pub seats_of_member_sets : (lane : LaneName Bundle) (ends : List (PutEnd Bundle Item))
        → ends ≡ map (new_putter lane) sets
        → (relay : ℕ) → parent_of plan relay ≡ Some owner
        → (putter : PutEnd Bundle Item) × (slice_get ends relay ≡ Some putter) × IsSeatOf plan relay lane putter
    seats_of_member_sets lane ends are relay child =
        let within : relay < length sets =
        let inside = slice_get_within plan.parents.items relay owner child in omega (arith, count) in (
          new_putter lane (get_or sets relay set.empty),
          ap (λ (xs : List (PutEnd Bundle Item)). slice_get xs relay) are
              ∙ mapped_at (new_putter lane) sets relay _ (slice_get-get_or sets relay set.empty within),
          record { on = refl; members = (each relay set.empty within).child child; empty = refl },
        )

    pub member_sets_apart : AreApart sets
    member_sets_apart = λ i j d lower within p in_one in_other.
        let one = of_child i d p (omega arith) in_one in
        let other = of_child j d p within in_other in
        siblings_apart plan checked i j p owner one.0 other.0 (λ e. omega arith) one.1 other.1

    pub member_sets_together : (members : Numbers)
        → ((p : ℕ) → set.contains members p ≡ list_any (λ numbers. set.contains numbers p) sets)
        → AreBelowChildren plan owner members
    member_sets_together members all = λ p. (
      (λ has.
          let some = Any-from_list_any (λ (numbers : Numbers). set.contains numbers p) sets (sym (all p) ∙ has) in
          let child = of_child some.0 some.1 p some.2 (ap (λ (s : Numbers). set.contains s p) some.3 ∙ some.4) in
          (some.0, child.0, child.1)),
      (λ below.
          let relay = below.0 in
          let within : relay < length sets =
          let inside = slice_get_within plan.parents.items relay owner below.1 in omega (arith, count) in
          all p ∙ list_any_at (λ (numbers : Numbers). set.contains numbers p) sets relay set.empty within
          (((each relay set.empty within).child below.1 p).1 below.2)),
    )
