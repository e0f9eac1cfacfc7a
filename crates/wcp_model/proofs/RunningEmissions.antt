use Rattle.wcp_model.proofs.Words.{NumberSet, Flag, ◌≡◌, ℕ, ◌+◌, ◌<◌, ◌⊎◌, true, false, List, [], ◌∷◌, ◌++◌, length}
use Rattle.wcp_model.proofs.Words.{slice_index, slice_index_or, Contains, sym, ap, ◌∙◌, subst, inl, inr, ⊎_elim}
use Rattle.wcp_model.proofs.Words.{append-nil, arith, cases_lt, length_push, get_or_append_left, get_or_push}
use Rattle.wcp_model.proofs.Words.{Contains-get_or, Contains-append_left, Contains-push, Contains-push_cases}
use Rattle.wcp_model.proofs.Words.{IsStrictlyIncreasing, Note, State, Step, Computation, IsState, IsTrueState}
use Rattle.wcp_model.proofs.Words.{IsEmittedState, AreEmittedStates, communications, is_closed, snapshots_from}
use Rattle.wcp_model.proofs.Words.{AreEmissions, IsStateClock}
use Rattle.wcp_clock.specs.declared.note.Note.TheVariants as note
use Rattle.wcp_model.specs.declared.step.Step.TheVariants as step
use Rattle.wcp_model.proofs.Predecessors.{local_state}
use Rattle.wcp_model.proofs.Reached.{true_state_exists}
use Rattle.wcp_model.proofs.Flags.{true_state_cases, reset_grows, reset_shrinks}
use Rattle.wcp_model.proofs.Growth.{clock_grows, true_state_grows, true_state_shrinks}

-- the snapshots of clocks and of more clocks, from a number on
pub snapshots_append : (number : ℕ) (clocks others : List (List ℕ)) → snapshots_from number
    (clocks ++ others) ≡ snapshots_from number clocks ++ snapshots_from (number + length clocks) others
snapshots_append number [] others = ap (λ k. snapshots_from k others) (omega arith)
snapshots_append number (clock ∷ clocks) others = grind (arith, snapshots_append (number + 1) clocks others)

-- an emitted state stays one
pub emitted_state_grows : (watched : NumberSet) (flag : Flag) (c e : Computation) (s : State)
    → IsEmittedState watched flag c s → IsEmittedState watched flag (c ++ e) s
emitted_state_grows watched flag c e s is =
    grind (arith, true_state_exists, true_state_grows, reset_grows, true_state_shrinks, local_state)

-- and one that was true before was emitted before
pub emitted_state_of_prefix : (watched : NumberSet) (flag : Flag) (c e : Computation) (s : State) → IsTrueState c s
    → IsEmittedState watched flag (c ++ e) s → IsEmittedState watched flag c s
emitted_state_of_prefix watched flag c e s true_before is = record {
  watched_process = is.watched_process;
  true_state = true_before;
  first = λ k below true_state.
      reset_shrinks flag s.process k s.interval c e (true_state_exists c s true_before)
      (is.first k below (true_state_grows c e (local_state s.process k) true_state));
}

-- after one more step a state is emitted if it was before, or if the step is a true observation in it
pub emitted_state_cases : (watched : NumberSet) (flag : Flag) (c : Computation) (x : Step) (s : State)
    → IsEmittedState watched flag (c ++ x ∷ []) s
    → IsEmittedState watched flag c s ⊎ ((x ≡ step.Observe s.process true) × (communications c s.process ≡ s.interval))
emitted_state_cases watched flag c x s is = ⊎_elim
    (λ (old : IsTrueState c s). inl (emitted_state_of_prefix watched flag c (x ∷ []) s old is))
    (λ new. inr new)
    (true_state_cases c x s is.true_state)

pub emitted_state_exists : (watched : NumberSet) (flag : Flag) (c : Computation) (s : State)
    → IsEmittedState watched flag c s → IsState c s
emitted_state_exists watched flag c s is = true_state_exists c s is.true_state

-- no emitted state is new
abbrev pub NoneNew : NumberSet → Flag → Computation → Computation → ℕ → Type 0
NoneNew watched flag c e p =
    (k : ℕ) → IsEmittedState watched flag (c ++ e) (local_state p k) → IsEmittedState watched flag c (local_state p k)

-- the clocks of emitted states are settled
clocks_stay : (n : ℕ) (watched : NumberSet) (flag : Flag) (c e : Computation) (p : ℕ) (notes : List Note)
    (h : AreEmissions n watched flag c p notes) →
    (i : ℕ) → i < length h.intervals
    → IsStateClock n (c ++ e) (local_state p (slice_index h.intervals i)) (slice_index_or h.clocks i [])
clocks_stay n watched flag c e p notes h i lt =
    clock_grows n c e (local_state p (slice_index h.intervals i)) (slice_index_or h.clocks i [])
    (emitted_state_exists watched flag c (local_state p (slice_index h.intervals i))
    ((h.states.each (slice_index h.intervals i)).0 (Contains-get_or h.intervals i 0 lt)))
    (h.each i lt)

-- where no emitted state is new, these states stay
emitted_states_stay : (watched : NumberSet) (flag : Flag) (c e : Computation) (p : ℕ) (intervals : List ℕ)
    → NoneNew watched flag c e p
    → AreEmittedStates watched flag c p intervals → AreEmittedStates watched flag (c ++ e) p intervals
emitted_states_stay watched flag c e p intervals none are = record {
  rising = are.rising;
  each = λ k. (
    λ contains. emitted_state_grows watched flag c e (local_state p k) ((are.each k).0 contains),
    λ is. (are.each k).1 (none k is),
  );
}

-- and so does what was emitted
pub emitted_stays : (n : ℕ) (watched : NumberSet) (flag : Flag) (c e : Computation) (p : ℕ) (notes : List Note)
    → NoneNew watched flag c e p → is_closed (c ++ e) p ≡ is_closed c p → AreEmissions n watched flag c p notes
    → AreEmissions n watched flag (c ++ e) p notes
emitted_stays n watched flag c e p notes none closed h =
    grind (
      arith,
      clocks_stay n watched flag c e p notes h,
      emitted_states_stay watched flag c e p h.intervals none h.states,
    )

-- a close emits a mark that counts the snapshots
pub emitted_close : (n : ℕ) (watched : NumberSet) (flag : Flag) (c e : Computation) (p : ℕ) (notes : List Note)
    → NoneNew watched flag c e p → is_closed c p ≡ false → is_closed (c ++ e) p ≡ true
    → (h : AreEmissions n watched flag c p notes) →
    AreEmissions n watched flag (c ++ e) p (notes ++ note.Close (length h.clocks) ∷ [])
emitted_close n watched flag c e p notes none was_open closed h =
    grind (
      arith,
      clocks_stay n watched flag c e p notes h,
      emitted_states_stay watched flag c e p h.intervals none h.states,
      append-nil,
    )

-- numbers that rise, and one above them
rising_push : (xs : List ℕ) (k : ℕ) → IsStrictlyIncreasing xs → ((i : ℕ) → i < length xs → slice_index xs i < k)
    → IsStrictlyIncreasing (xs ++ k ∷ [])
rising_push xs k rising above i below = grind (arith, get_or_append_left, get_or_push, length_push)

-- a first true observation of an interval emits its snapshot
pub emitted_snapshot : (n : ℕ) (watched : NumberSet) (flag : Flag) (c e : Computation) (p k : ℕ) (notes : List Note)
    (clock : List ℕ) → is_closed c p ≡ false → is_closed (c ++ e) p ≡ false →
    ((j : ℕ) → IsEmittedState watched flag c (local_state p j) → j < k) → ((j : ℕ) → IsEmittedState watched flag
    (c ++ e) (local_state p j) → IsEmittedState watched flag c (local_state p j) ⊎ (k ≡ j)) →
    IsEmittedState watched flag (c ++ e) (local_state p k) → IsStateClock n (c ++ e) (local_state p k) clock
    → (h : AreEmissions n watched flag c p notes) →
    AreEmissions n watched flag (c ++ e) p (notes ++ note.Snap (length h.clocks) clock ∷ [])
emitted_snapshot n watched flag c e p k notes clock was_open still_open below new is clock_is h = record {
  intervals = h.intervals ++ k ∷ [];
  states = record {
    rising = rising_push h.intervals k h.states.rising
        (λ i lt. below (slice_index h.intervals i)
        ((h.states.each (slice_index h.intervals i)).0 (Contains-get_or h.intervals i 0 lt)));
    each = λ j. (
      λ contains. ⊎_elim (λ (old : Contains h.intervals j). emitted_state_grows watched flag c e (local_state p j)
          ((h.states.each j).0 old))
          (λ (same : k ≡ j). subst (λ i. IsEmittedState watched flag (c ++ e) (local_state p i)) same is)
          (Contains-push_cases h.intervals k j contains),
      λ truth. ⊎_elim (λ (old : IsEmittedState watched flag c (local_state p j)). Contains-append_left h.intervals
          (k ∷ []) j ((h.states.each j).1 old))
          (λ (same : k ≡ j). subst (Contains (h.intervals ++ k ∷ [])) same (Contains-push h.intervals k))
          (new j truth),
    );
  };
  clocks = h.clocks ++ clock ∷ [];
  same_length = length_push h.clocks clock ∙ ap (λ i. i + 1) h.same_length ∙ sym (length_push h.intervals k);
  each = λ i lt.
      ⊎_elim (λ (old : i < length h.intervals).
      grind (
        arith,
        clocks_stay n watched flag c e p notes h i old,
        get_or_append_left h.intervals (k ∷ []) 0 i old,
        get_or_append_left h.clocks (clock ∷ []) [] i (omega (arith, h.same_length)),
      ))
      (grind (arith, get_or_push, length_push))
      (cases_lt i (length h.intervals));
  notes_are = grind (arith, append-nil, snapshots_append);
}
