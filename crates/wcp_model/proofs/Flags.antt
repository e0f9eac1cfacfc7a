-- What the flag of a process is at, one more step on.
use Rattle.wcp_model.proofs.Words.{NumberSet, ◌≡◌, ℕ, ◌+◌, ◌<◌, ◌≤◌, ◌⊎◌, true, false, true≢false, [], ◌∷◌, ◌++◌, gets}
use Rattle.wcp_model.proofs.Words.{length, slice_get, count_by, Some, refl, sym, ap, inl, inr, arith, cases_lt}
use Rattle.wcp_model.proofs.Words.{cases_Bool, eq-eqb, cond, sum_by_push, take_at, slice_get_within, slice_get_cases}
use Rattle.wcp_model.proofs.Words.{common_steps, State, Step, Observe, Send, Computation, IsTrueState}
use Rattle.wcp_model.proofs.Words.{is_communication_of, communications, interval_at, Flag, resets, WasReset, IsFlagUp}
use Rattle.wcp_model.specs.declared.flag.Flag.TheVariants as reset_at
use Rattle.wcp_model.proofs.Decided.{Decided, decided_from, some_below_decided}
use Rattle.wcp_model.proofs.EventPlaces.{IsEventOf, event_below}
use Rattle.wcp_model.proofs.Predecessors.{local_state}
use Rattle.wcp_model.proofs.Reached.{true_state_exists}
use Rattle.wcp_model.proofs.Growth.{get_front, get_behind, count_prefix, in_front, at_grows, interval_grows}
use Rattle.wcp_model.proofs.Growth.{true_state_grows, true_state_of_prefix}

-- what resets a flag is a communication event of its process, and each send of it resets it
pub resets_event : (flag : Flag) (p : ℕ) (x : Step) → resets flag p x ≡ true → is_communication_of p x ≡ true
resets_event reset_at.Event p x is = is
resets_event reset_at.Send p (Send from to) is = is
resets_event reset_at.Send p x is = absurd (true≢false (sym is))

pub send_resets : (flag : Flag) (p to : ℕ) → resets flag p (Send p to) ≡ true
send_resets reset_at.Event p to = eq-eqb p p refl
send_resets reset_at.Send p to = eq-eqb p p refl

-- the process is in its last interval at the end of the front
pub interval_at_seam : (c e : Computation) (p : ℕ) → interval_at (c ++ e) p (length c) ≡ communications c p
interval_at_seam c e p = ap (count_by (is_communication_of p)) (take_at c e (length c) refl)

-- one more step: the process has one more event, or none
pub communications_push : (c : Computation) (x : Step) (p one : ℕ) → cond (is_communication_of p x) 1 0 ≡ one
    → communications (c ++ x ∷ []) p ≡ communications c p + one
communications_push c x p one here = grind (arith, sum_by_push)

-- a state is true after one more step if it was before, or if the step is a true observation in it
pub true_state_cases : (c : Computation) (x : Step) (s : State) → IsTrueState (c ++ x ∷ []) s
    → IsTrueState c s ⊎ ((x ≡ Observe s.process true) × (communications c s.process ≡ s.interval))
true_state_cases c x s is =
    grind (arith, common_steps, gets, true_state_of_prefix, get_behind, slice_get_within, cases_lt is.place (length c))

module _ (flag : Flag) (p first second : ℕ) where
  -- a reset stays, and one between intervals that were there is an old one
  pub reset_grows : (c e : Computation) → WasReset flag c p first second → WasReset flag (c ++ e) p first second
  reset_grows c e is = grind (arith, at_grows c e is.place is.step is.at, interval_grows c e p is.place is.step is.at)

  pub reset_shrinks : (c e : Computation) → second ≤ communications c p → WasReset flag (c ++ e) p first second
      → WasReset flag c p first second
  reset_shrinks c e exists is = grind (arith, in_front, count_prefix, get_front)

  -- whether there is one is decided
  abbrev IsResetAt : Computation → ℕ → Type 0
  IsResetAt c place = (x : Step) × (slice_get c place ≡ Some x) × (resets flag p x ≡ true)
      × (first ≤ interval_at c p place) × (interval_at c p place < second)

  reset_at_decided : (c : Computation) (place : ℕ) → Decided (IsResetAt c place)
  reset_at_decided c place = elim (slice_get_cases c place).1 [
    | inl here ↦ elim (cases_Bool (resets flag p here.0)) [
      | inl resetting ↦ elim (cases_lt (interval_at c p place) first) [
        | inl early ↦ inr (λ is. absurd (omega (arith, is.3)))
        | inr from ↦ elim (cases_lt (interval_at c p place) second) [
          | inl before ↦ inl (here.0, here.2, resetting, from, before)
          | inr late ↦ inr (λ is. absurd (omega (arith, is.4)))
        ]
      ]
      | inr other ↦ inr (λ is. absurd (true≢false (grind (arith, is.1, is.2, here.2, other))))
    ]
    | inr past ↦ inr (λ is. absurd (omega (arith, past.0, slice_get_within c place is.0 is.1)))
  ]

  pub reset_decided : (c : Computation) → Decided (WasReset flag c p first second)
  reset_decided c = decided_from
      (λ (some : (place : ℕ) × (place < length c) × IsResetAt c place).
      let (step, at, resetting, from, before) = some.2 in
      record { place = some.0; step = step; at = at; resetting = resetting; from = from; before = before })
      (λ (is : WasReset flag c p first second). (
        is.place,
        slice_get_within c is.place is.step is.at,
        (is.step, is.at, is.resetting, is.from, is.before),
      ))
      (some_below_decided (IsResetAt c) (length c) (λ place below. reset_at_decided c place))

module _ (watched : NumberSet) (flag : Flag) (c : Computation) (x : Step) (p : ℕ) where
  abbrev pub longer : Computation
  longer = c ++ x ∷ []

  no_fewer : communications c p ≤ communications longer p
  no_fewer = omega (arith, communications_push c x p (cond (is_communication_of p x) 1 0) refl)

  -- a step that resets it resets it in the interval that it ends
  reset_here : (first : ℕ) → first ≤ communications c p → resets flag p x ≡ true
      → WasReset flag longer p first (communications longer p)
  reset_here first order resetting =
      let one : cond (is_communication_of p x) 1 0 ≡ 1 = ap (λ b. cond b 1 0) (resets_event flag p x resetting) in
      let more : communications longer p ≡ communications c p + 1 = communications_push c x p 1 one in
      record {
        place = length c;
        step = x;
        at = get_behind c x [];
        resetting = resetting;
        from = omega (arith, interval_at_seam c (x ∷ []) p);
        before = omega (arith, interval_at_seam c (x ∷ []) p, more);
      }

  -- another step adds no reset
  reset_before : (first : ℕ) → resets flag p x ≡ false → WasReset flag longer p first (communications longer p)
      → WasReset flag c p first (communications c p)
  reset_before first other is =
      grind (
        arith,
        common_steps,
        gets,
        cases_lt,
        get_front,
        count_prefix,
        IsEventOf,
        resets_event,
        event_below,
        slice_get_within,
        longer,
        get_behind,
      )

  -- the flag stays up where the step doesn't reset it
  pub flag_up_stays : resets flag p x ≡ false → IsFlagUp watched flag c (local_state p (communications c p))
      → IsFlagUp watched flag longer (local_state p (communications longer p))
  flag_up_stays other up = grind (arith, no_fewer, true_state_grows, local_state, reset_before)

  -- and where the step is no true observation, the flag is up only if it was, and the step doesn't reset it
  pub flag_was_up : (x ≡ Observe p true → ⊥)
      → IsFlagUp watched flag longer (local_state p (communications longer p))
      → (resets flag p x ≡ false) × IsFlagUp watched flag c (local_state p (communications c p))
  flag_was_up quiet up = elim (true_state_cases c x (local_state p up.since) up.true_state) [
    | inl old ↦
        let order = true_state_exists c (local_state p up.since) old in
        elim (cases_Bool (resets flag p x)) [
          | inl resetting ↦ absurd (up.still_up (reset_here up.since order resetting))
          | inr other ↦ (
            other,
            record {
              watched_process = up.watched_process;
              since = up.since;
              order = order;
              true_state = old;
              still_up =
                  λ reset. up.still_up (wider (reset_grows flag p up.since (communications c p) c (x ∷ []) reset));
            },
          )
        ]
    | inr new ↦ absurd (quiet new.0)
  ]
    where
      wider : WasReset flag longer p up.since (communications c p)
          → WasReset flag longer p up.since (communications longer p)
      wider is = record {
        place = is.place;
        step = is.step;
        at = is.at;
        resetting = is.resetting;
        from = is.from;
        before = omega (arith, is.before, no_fewer);
      }
