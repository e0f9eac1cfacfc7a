-- The first reason why a run gives no outcome.
use Rattle.wcp_run.proofs.Words.{◌≡◌, ℕ, zero, suc, ◌<◌, Bool, true, inl, inr, Some, None, List, [], ◌∷◌, ◌++◌, length}
use Rattle.wcp_run.proofs.Words.{map, refl, sym, ap, ◌∙◌, arith, zero-add, option_map, length-map, slice_get-map}
use Rattle.wcp_run.proofs.Words.{slice_get-get_or, slice_get_within, element_within, WorkerEnd, IsFirstRunFault}
use Rattle.wcp_run.proofs.Words.{IsReasonOf, IsToldWithin, was_held, was_lost, Ends}
use Rattle.std.specs.Prelude.{slice_get}
use Rattle.std.specs.List.{position, position_or_len, range_with_len}
use Rattle.std.proofs.lemmas.Grind.{common_steps}
use Rattle.std.proofs.lemmas.List.FromFn.{get_or-range_with_len, length-range_with_len}
use Rattle.std.proofs.lemmas.List.Quantifiers.{position-Some}
use Rattle.std.proofs.lemmas.List.Sums.{fails_before_first}
use Rattle.wcp_model.specs.FirstReason.{IsFirstReason}
use Rattle.wcp_relay.proofs.Entries.{earlier_entry}
use Rattle.wcp_run.specs.declared.run_fault.RunFault.{RunFault}
use Rattle.wcp_run.specs.declared.run_fault.RunFault.TheVariants.{Memory, Spawn, Held, Lost, Cut, Unfinished}

module _ {R : Type 0} (Holds : R → Type 0) where
  -- a reason that holds is the first of those that begin with it
  first_here : (one : R) (behind : List R) → Holds one → IsFirstReason Holds (one ∷ behind) one
  first_here one behind holds =
      record { place = 0; listed = refl; holds = holds; none_before = λ earlier other below at. absurd (omega arith) }

  -- behind one that doesn't hold the first is the same
  first_behind : (one first : R) (behind : List R) → ¬ Holds one → IsFirstReason Holds behind first
      → IsFirstReason Holds (one ∷ behind) first
  first_behind one first behind denied later =
      record { place = suc later.place; listed = later.listed; holds = later.holds; none_before = none }
    where
      none : (earlier : ℕ) (other : R) → earlier < suc later.place → slice_get (one ∷ behind) earlier ≡ Some other
          → ¬ Holds other
      none zero other below at = grind arith
      none (suc earlier) other below at = later.none_before earlier other (omega arith) at

  -- and so it is behind several
  first_past : (front behind : List R) (first : R) → ((i : ℕ) (other : R) → slice_get front i ≡ Some other
      → ¬ Holds other) → IsFirstReason Holds behind first → IsFirstReason Holds (front ++ behind) first
  first_past [] behind first denied later = later
  first_past (one ∷ front) behind first denied later =
      first_behind one first (front ++ behind) (denied 0 one refl)
      (first_past front behind first (λ i other at. denied (suc i) other at) later)

  -- the first of a prefix is the first of all
  first_within : (front behind : List R) (first : R) → IsFirstReason Holds front first
      → IsFirstReason Holds (front ++ behind) first
  first_within front behind first is =
      let within = slice_get_within front is.place first is.listed in
      record {
        place = is.place;
        listed = earlier_entry front behind is.place within ∙ is.listed;
        holds = is.holds;
        none_before = λ earlier other below at. is.none_before earlier other below
            (sym (earlier_entry front behind earlier (omega arith)) ∙ at);
      }

  -- of one kind for each number below n
  module _ (reason : ℕ → R) (n : ℕ) where
    reason_at : (k : ℕ) (other : R) → slice_get (map reason (range_with_len 0 n)) k ≡ Some other
        → (k < n) × (reason k ≡ other)
    reason_at k other at =
        let within : k < n = omega (
          arith,
          slice_get_within (map reason (range_with_len 0 n)) k other at,
          length-map (range_with_len 0 n) reason,
          length-range_with_len 0 n,
        ) in
        let number : slice_get (range_with_len 0 n) k ≡ Some k =
        slice_get-get_or (range_with_len 0 n) k 0 (omega (arith, length-range_with_len 0 n))
        ∙ ap (λ m. Some m) (get_or-range_with_len 0 n k 0 within ∙ zero-add k) in
        let here : slice_get (map reason (range_with_len 0 n)) k ≡ Some (reason k) =
        slice_get-map reason (range_with_len 0 n) k ∙ ap (option_map reason) number in
        (within, let both = sym here ∙ at in cc)

    first_numbered : (p : ℕ) → p < n → Holds (reason p) → ((k : ℕ) → k < p → ¬ Holds (reason k))
        → IsFirstReason Holds (map reason (range_with_len 0 n)) (reason p)
    first_numbered p within holds denied =
        let long : length (map reason (range_with_len 0 n)) ≡ n = length-map (range_with_len 0 n) reason
        ∙ length-range_with_len 0 n in
        let (other, at) = element_within (map reason (range_with_len 0 n)) p (omega (arith, long)) in
        record {
          place = p;
          listed = at ∙ ap (λ r. Some r) (sym (reason_at p other at).1);
          holds = holds;
          none_before = λ earlier one below there. let same = (reason_at earlier one there).1 in
              rw (← same) (denied earlier below);
        }

    none_numbered : ((k : ℕ) → ¬ Holds (reason k)) → (k : ℕ) (other : R)
        → slice_get (map reason (range_with_len 0 n)) k ≡ Some other → ¬ Holds other
    none_numbered denied k other at = let same = (reason_at k other at).1 in rw (← same) (denied k)

-- what is found first passes the test, and nothing before it does
found_first : {X : Type 0} (test : X → Bool) (xs : List X) (p : ℕ) → position test xs ≡ Some p
    → (p < length xs) × (slice_get (map test xs) p ≡ Some true)
    × ((k : ℕ) → k < p → slice_get (map test xs) k ≡ Some true → ⊥)
found_first test xs p found =
    let within : p < length xs = grind (arith, common_steps) in
    let (x, at) = element_within xs p within in
    let at_first = position-Some test xs p x found in (
      within,
      slice_get-map test xs p ∙ ap (option_map test) (slice_get-get_or xs p x within) ∙ ap (λ b. Some b) at_first.1,
      λ k below there.
          let denied = at_first.2 k below in
          let both = sym there ∙ slice_get-map test xs k
          ∙ ap (option_map test) (slice_get-get_or xs k x (omega arith)) in cc,
    )

-- where nothing is found, nothing passes
found_none : {X : Type 0} (test : X → Bool) (xs : List X) → position test xs ≡ None → (k : ℕ)
    → slice_get (map test xs) k ≡ Some true → ⊥
found_none test xs none k there =
    let within : k < length xs = omega (arith, slice_get_within (map test xs) k true there, length-map xs test) in
    let (x, at) = element_within xs k within in
    let past : k < position_or_len test xs = grind (arith, common_steps) in
    let denied = fails_before_first test xs k x past in
    let both = sym there ∙ slice_get-map test xs k ∙ ap (option_map test) (slice_get-get_or xs k x within) in cc

module _ (ends : Ends WorkerEnd) where
  abbrev Denied : RunFault → Type 0
  Denied fault = ¬ IsReasonOf ends fault

  abbrev n : ℕ
  n = length ends.workers.items

  abbrev all_held : List RunFault
  all_held = map Held (range_with_len 0 n)

  abbrev all_lost : List RunFault
  all_lost = map Lost (range_with_len 0 n)

  -- none was lost where none of the workers' processes was
  pub none_lost_past : IsToldWithin ends → ((p : ℕ) → p < n → Denied (Lost p)) → (p : ℕ) → Denied (Lost p)
  none_lost_past told none p lost = none p (within lost) lost
    where
      within : IsReasonOf ends (Lost p) → p < n
      within (inl at) = omega (
        arith,
        slice_get_within (map was_lost ends.workers.items) p true at,
        length-map ends.workers.items was_lost,
      )
      within (inr is) = told p is

  pub memory_first : IsReasonOf ends Memory → IsFirstRunFault ends Memory
  memory_first holds = first_here (IsReasonOf ends) Memory _ holds

  module _ (enough : Denied Memory) where
    behind_two : (behind : List RunFault) (first : RunFault) → IsFirstReason (IsReasonOf ends) behind first
        → IsFirstReason (IsReasonOf ends) (Memory ∷ Spawn ∷ behind) first
    behind_two behind first is =
        first_behind (IsReasonOf ends) Memory first (Spawn ∷ behind) enough
        (first_behind (IsReasonOf ends) Spawn first behind (λ holds. holds) is)

    pub held_first : (p : ℕ) → position was_held ends.workers.items ≡ Some p → IsFirstRunFault ends (Held p)
    held_first p found =
        let (within, here, before) = found_first was_held ends.workers.items p found in
        behind_two (all_held ++ (all_lost ++ Cut ∷ [])) (Held p)
        (first_within (IsReasonOf ends) all_held (all_lost ++ Cut ∷ []) (Held p)
        (first_numbered (IsReasonOf ends) Held n p within here before))

    module _ (none_held : position was_held ends.workers.items ≡ None) where
      behind_held : (behind : List RunFault) (first : RunFault) → IsFirstReason (IsReasonOf ends) behind first
          → IsFirstReason (IsReasonOf ends) (Memory ∷ Spawn ∷ (all_held ++ behind)) first
      behind_held behind first is = behind_two (all_held ++ behind) first
          (first_past (IsReasonOf ends) all_held behind first
          (none_numbered (IsReasonOf ends) Held n (found_none was_held ends.workers.items none_held)) is)

      pub lost_first : (p : ℕ) → p < n → IsReasonOf ends (Lost p) → ((q : ℕ) → q < p → Denied (Lost q))
          → IsFirstRunFault ends (Lost p)
      lost_first p within here before =
          behind_held (all_lost ++ Cut ∷ []) (Lost p)
          (first_within (IsReasonOf ends) all_lost (Cut ∷ []) (Lost p)
          (first_numbered (IsReasonOf ends) Lost n p within here before))

      module _ (none_lost : (p : ℕ) → Denied (Lost p)) where
        pub cut_first : IsReasonOf ends Cut → IsFirstRunFault ends Cut
        cut_first holds = behind_held (all_lost ++ Cut ∷ []) Cut
            (first_past (IsReasonOf ends) all_lost (Cut ∷ []) Cut (none_numbered (IsReasonOf ends) Lost n none_lost)
            (first_here (IsReasonOf ends) Cut [] holds))

        pub none_applies : Denied Cut → (fault : RunFault) → Denied fault
        none_applies uncut Memory = enough
        none_applies uncut Spawn = λ holds. holds
        none_applies uncut (Held p) = found_none was_held ends.workers.items none_held p
        none_applies uncut (Lost p) = none_lost p
        none_applies uncut Cut = uncut
        none_applies uncut Unfinished = λ holds. holds
