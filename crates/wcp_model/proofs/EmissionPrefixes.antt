use Rattle.wcp_model.proofs.Words.{NumberSet, Flag, false, snapshots_from, ◌≡◌, ℕ, ◌+◌, ◌<◌, ◌≤◌, true, List, [], ◌++◌}
use Rattle.wcp_model.proofs.Words.{length, drop, slice_index, slice_index_or, ap, ◌∙◌, subst, inl, inr, ⊎_elim}
use Rattle.wcp_model.proofs.Words.{append_assoc, append-nil, length-append, arith, suc, ◌⊎◌, ◌∷◌, Contains, refl, ap₂}
use Rattle.wcp_model.proofs.Words.{cases_Bool, cases_lt, get_or_append_left, nil_from_length, Contains-append_cases}
use Rattle.wcp_model.proofs.Words.{Contains-append_right, Contains-push_cases, Contains-get_or, list_any-append}
use Rattle.wcp_model.proofs.Words.{AllPairs-from_increasing, Note, Computation, communications, is_closed, AreEmissions}
use Rattle.wcp_model.proofs.Words.{IsEmittedState, State, IsAccepted, IsStateClock, AllPairs}
use Rattle.std.specs.Prelude.{if◌then◌else◌}
use Rattle.wcp_clock.specs.declared.note.Note.TheVariants as note
use Rattle.std.proofs.lemmas.List.Prefix.{front_from_reads}
use Rattle.wcp_model.proofs.AcceptedSteps.{none_new_after_close}
use Rattle.wcp_model.proofs.Growth.{clock_grows, true_state_shrinks}
use Rattle.wcp_model.proofs.Predecessors.{local_state}
use Rattle.wcp_model.proofs.RunningEmissions.{snapshots_append, NoneNew, emitted_state_grows, emitted_state_of_prefix}
use Rattle.wcp_model.proofs.RunningEmissions.{emitted_state_exists}
use Rattle.wcp_model.proofs.StateClocks.{clock_alone}

-- each number is below all later ones
abbrev Rises : List ℕ → Type 0
Rises xs = AllPairs (λ x y. x < y) xs

rest_rises : (x : ℕ) (xs : List ℕ) → Rises (x ∷ xs) → Rises xs
rest_rises x xs rises i j d before within = rises (suc i) (suc j) d (omega arith) (omega arith)

-- so its first is below the others
first_below : (x : ℕ) (xs : List ℕ) (k : ℕ) → Rises (x ∷ xs) → Contains xs k → x < k
first_below x xs k rises within =
    let less : x < slice_index_or xs within.0 k = rises 0 (suc within.0) k (omega arith) (omega (arith, within.1)) in
    omega (arith, less, within.2)

-- an element is the first or one of the others
first_or_other : (x : ℕ) (xs : List ℕ) (k : ℕ) → Contains (x ∷ xs) k → (x ≡ k) ⊎ Contains xs k
first_or_other x xs k within = grind (arith, Contains-append_cases (x ∷ []) xs k within, Contains-push_cases [] x k)

first_within : (x : ℕ) (xs : List ℕ) → Contains (x ∷ xs) x
first_within x xs = (0, omega arith, refl)

at_least_first : (x : ℕ) (xs : List ℕ) (k : ℕ) → Rises (x ∷ xs) → Contains (x ∷ xs) k → x ≤ k
at_least_first x xs k rises within = grind (arith, first_below x xs k rises, first_or_other x xs k within)

-- a rising list that has the numbers of another, and no others but such as none of these exceeds, begins with the other
rising_prefix : (xs ys : List ℕ) → Rises xs → Rises ys → ((k : ℕ) → Contains xs k → Contains ys k)
    → ((k : ℕ) → Contains ys k → Contains xs k ⊎ ((j : ℕ) → Contains xs j → j ≤ k)) →
    (rest : List ℕ) × (ys ≡ xs ++ rest)
rising_prefix [] ys rise rises kept new = (ys, refl)
rising_prefix (x ∷ xs) [] rise rises kept new = absurd (omega (arith, (kept x (first_within x xs)).1))
rising_prefix (x ∷ xs) (y ∷ ys) rise rises kept new =
    let above : y ≤ x = at_least_first y ys x rises (kept x (first_within x xs)) in
    let below : x ≤ y = ⊎_elim (λ (old : Contains (x ∷ xs) y). at_least_first x xs y rise old)
    (λ (late : (j : ℕ) → Contains (x ∷ xs) j → j ≤ y). late x (first_within x xs)) (new y (first_within y ys)) in
    let same : y ≡ x = omega arith in
    let found : (rest : List ℕ) × (ys ≡ xs ++ rest) = rising_prefix xs ys (rest_rises x xs rise) (rest_rises y ys rises)
    (λ k within. grind (
      arith,
      first_below x xs k rise within,
      first_or_other y ys k (kept k (Contains-append_right (x ∷ []) xs k within)),
    ))
    (λ k within. ⊎_elim
    (λ (old : Contains (x ∷ xs) k). grind (arith, first_or_other x xs k old, first_below y ys k rises within))
    (λ (late : (j : ℕ) → Contains (x ∷ xs) j → j ≤ k). inr
    (λ j other. late j (Contains-append_right (x ∷ []) xs j other)))
    (new k (Contains-append_right (y ∷ []) ys k within))) in
    (found.0, ap₂ (λ z zs. z ∷ zs) same found.1)

-- an emitted state before the last one was emitted before
emitted_state_shrinks : (watched : NumberSet) (flag : Flag) (c e : Computation) (s : State)
    → s.interval < communications c s.process
    → IsEmittedState watched flag (c ++ e) s → IsEmittedState watched flag c s
emitted_state_shrinks watched flag c e s below is =
    emitted_state_of_prefix watched flag c e s (true_state_shrinks c e s below is.true_state) is

module _ (n : ℕ) (watched : NumberSet) (flag : Flag) (c e : Computation) (p : ℕ) (notes more : List Note)
    (is : AreEmissions n watched flag c p notes) (grown : AreEmissions n watched flag (c ++ e) p more) where
  -- the true states of a computation come first among those of a longer one
  intervals_prefix : (rest : List ℕ) × (grown.intervals ≡ is.intervals ++ rest)
  intervals_prefix =
      rising_prefix is.intervals grown.intervals (AllPairs-from_increasing is.intervals is.states.rising)
      (AllPairs-from_increasing grown.intervals grown.states.rising)
      (λ k within. (grown.states.each k).1
      (emitted_state_grows watched flag c e (local_state p k) ((is.states.each k).0 within)))
      (λ k within. ⊎_elim
      (λ (over : k < communications c p). inl ((is.states.each k).1
      (emitted_state_shrinks watched flag c e (local_state p k) over ((grown.states.each k).0 within))))
      (λ (last : communications c p ≤ k). inr
      (λ j old. omega (arith, emitted_state_exists watched flag c (local_state p j) ((is.states.each j).0 old))))
      (cases_lt k (communications c p)))

  -- with the same clocks
  clocks_prefix : (rest : List (List ℕ)) × (grown.clocks ≡ is.clocks ++ rest)
  clocks_prefix =
      let longer : length grown.intervals ≡ length is.intervals + length intervals_prefix.0 =
      ap length intervals_prefix.1 ∙ length-append is.intervals intervals_prefix.0 in (
        drop (length is.clocks) grown.clocks,
        front_from_reads [] grown.clocks is.clocks (omega (arith, is.same_length, grown.same_length, longer))
            (λ i lt.
            let within : i < length is.intervals = omega (arith, is.same_length) in
            let k : ℕ = slice_index is.intervals i in
            let here : slice_index grown.intervals i ≡ k = ap (λ xs. slice_index xs i) intervals_prefix.1
            ∙ get_or_append_left is.intervals intervals_prefix.0 0 i within in
            clock_alone n (c ++ e) (local_state p k) (slice_index_or grown.clocks i []) (slice_index_or is.clocks i [])
            (subst (λ l. IsStateClock n (c ++ e) (local_state p l) (slice_index_or grown.clocks i [])) here
            (grown.each i (omega (arith, longer))))
            (clock_grows n c e (local_state p k) (slice_index_or is.clocks i [])
            (emitted_state_exists watched flag c (local_state p k)
            ((is.states.each k).0 (Contains-get_or is.intervals i 0 within))) (is.each i within))),
      )

  -- of a process that is closed there are no more
  none_behind : NoneNew watched flag c e p → length clocks_prefix.0 ≡ 0
  none_behind none =
      let all : (rest : List ℕ) × (is.intervals ≡ grown.intervals ++ rest) =
      rising_prefix grown.intervals is.intervals (AllPairs-from_increasing grown.intervals grown.states.rising)
      (AllPairs-from_increasing is.intervals is.states.rising)
      (λ k within. (is.states.each k).1 (none k ((grown.states.each k).0 within)))
      (λ k within. inl ((grown.states.each k).1
      (emitted_state_grows watched flag c e (local_state p k) ((is.states.each k).0 within)))) in
      omega (
        arith,
        is.same_length,
        grown.same_length,
        ap length all.1,
        length-append grown.intervals all.0,
        ap length clocks_prefix.1,
        length-append is.clocks clocks_prefix.0,
      )

  -- so the emissions of a computation come first among those of a longer one, if no state of a closed process becomes
  -- true
  pub emissions_prefix : (is_closed c p ≡ true → NoneNew watched flag c e p)
      → (rest : List Note) × (more ≡ notes ++ rest)
  emissions_prefix none = ⊎_elim
      (λ (closed : is_closed c p ≡ true).
      ([], grind (arith, append-nil, list_any-append, nil_from_length, none_behind (none closed))))
      (λ (was_open : is_closed c p ≡ false). (
        snapshots_from (length is.clocks) clocks_prefix.0
            ++ (if is_closed (c ++ e) p then note.Close (length grown.clocks) ∷ [] else []),
        grind (arith, append-nil, append_assoc, clocks_prefix, snapshots_append),
      ))
      (cases_Bool (is_closed c p))

-- in an accepted computation the emissions of each process grow at their end alone
pub emissions_grow : (n : ℕ) (watched : NumberSet) (flag : Flag) (c e : Computation) (p : ℕ) (notes more : List Note)
    → IsAccepted (c ++ e) → AreEmissions n watched flag c p notes → AreEmissions n watched flag (c ++ e) p more
    → (rest : List Note) × (more ≡ notes ++ rest)
emissions_grow n watched flag c e p notes more accepted is grown =
    emissions_prefix n watched flag c e p notes more is grown (none_new_after_close watched flag c e p accepted)
