use Rattle.wcp_model.proofs.Words.{NumberSet, Flag, Bool, resets, WasReset, IsFlagUp, is_up_after_receive, not, ◌||◌}
use Rattle.wcp_model.proofs.Words.{ProbeSetup, IsTrue, ◌↔◌, cases_lt, ◌≡◌, ℕ, ◌+◌, ◌<◌, true, false, true≢false, cond}
use Rattle.wcp_model.proofs.Words.{List, [], ◌∷◌, ◌++◌, length, fold, filter, slice_index, slice_set, count_by, Some}
use Rattle.wcp_model.proofs.Words.{refl, sym, ap, ◌∙◌, subst, inl, inr, ⊎_elim, append_assoc, append-nil, eq-eqb}
use Rattle.wcp_model.proofs.Words.{le_refl, arith, cases_Bool, false_from_ne_true, take_at, list_any-append}
use Rattle.wcp_model.proofs.Words.{slice_get_within, merged, Step, Observe, Send, Recv, Close, Computation, IsTrueState}
use Rattle.wcp_model.proofs.Words.{IsEmittedState, is_communication_of, is_send, communications, interval_at}
use Rattle.wcp_model.proofs.Words.{is_close_of, is_closed, IsMessage, Call, Observed, Sent, Received, Closed}
use Rattle.wcp_model.proofs.Words.{ProbeState, after_call, setup, state_of_log, is_step_of, IsStampOf, IsCallOf}
use Rattle.wcp_model.proofs.Words.{AreCallsOf, IsAccepted, HasClockAndEmissions, LogLaw, IsStateClock}
use Rattle.std.specs.FinSet as set
use Rattle.wcp_clock.specs.declared.note.Note.TheVariants as note
use Rattle.wcp_model.proofs.AcceptedSteps.{close_stands}
use Rattle.wcp_model.proofs.EventPlaces.{event_of_send, event_below}
use Rattle.wcp_model.proofs.Predecessors.{local_state}
use Rattle.wcp_model.specs.declared.flag.Flag.TheVariants as reset_at
use Rattle.wcp_model.proofs.Flags.{communications_push, interval_at_seam, resets_event, send_resets, reset_grows}
use Rattle.wcp_model.proofs.Flags.{reset_shrinks, reset_decided, flag_up_stays, flag_was_up}
use Rattle.wcp_model.proofs.Growth.{get_behind, at_grows, interval_grows, message_grows, clock_grows, stamp_shrinks}
use Rattle.wcp_model.proofs.Growth.{true_state_grows, true_state_shrinks}
use Rattle.wcp_model.proofs.NotesInTurn.{CountsNotes, counts_after, log_counts_notes}
use Rattle.wcp_model.proofs.RisingClocks.{emitted_clocks}
use Rattle.wcp_model.proofs.RunningClock.{clock_at_first, clock_after_send, clock_after_receive}
use Rattle.wcp_model.proofs.RunningEmissions.{emitted_state_cases, emitted_state_of_prefix, emitted_state_exists}
use Rattle.wcp_model.proofs.RunningEmissions.{NoneNew, emitted_stays, emitted_close, emitted_snapshot}

-- a step that is no close of the process leaves it as it was
closed_stays : (c : Computation) (x : Step) (p : ℕ) → is_close_of p x ≡ false
    → is_closed (c ++ x ∷ []) p ≡ is_closed c p
closed_stays c x p other = grind (arith, list_any-append)

-- a step that is no true observation makes no state true
none_new : (watched : NumberSet) (flag : Flag) (c : Computation) (x : Step) (p : ℕ) → (x ≡ Observe p true → ⊥)
    → NoneNew watched flag c (x ∷ []) p
none_new watched flag c x p other k is = grind (arith, emitted_state_cases watched flag c x (local_state p k) is)

-- the last state's clock stays while the process has no new event
clock_stays : (n : ℕ) (c : Computation) (x : Step) (p : ℕ) (clock : List ℕ) → is_communication_of p x ≡ false
    → IsStateClock n c (local_state p (communications c p)) clock →
    IsStateClock n (c ++ x ∷ []) (local_state p (communications (c ++ x ∷ []) p)) clock
clock_stays n c x p clock quiet is =
    subst (λ k. IsStateClock n (c ++ x ∷ []) (local_state p k) clock)
    (omega (arith, communications_push c x p 0 (ap (λ b. cond b 1 0) quiet)))
    (clock_grows n c (x ∷ []) (local_state p (communications c p)) clock (le_refl (communications c p)) is)

-- the flag in the last state is up as it was, where the step puts it neither up nor down
abbrev PutsNoFlagUp : NumberSet → Flag → Computation → Step → ℕ → Type 0
PutsNoFlagUp watched flag c x p = IsFlagUp watched flag (c ++ x ∷ []) (local_state p (communications (c ++ x ∷ []) p))
    → IsFlagUp watched flag c (local_state p (communications c p))

not_put_up : (watched : NumberSet) (flag : Flag) (c : Computation) (x : Step) (p : ℕ) → (x ≡ Observe p true → ⊥)
    → PutsNoFlagUp watched flag c x p
not_put_up watched flag c x p quiet up = (flag_was_up watched flag c x p quiet up).1

flag_stays : (n : ℕ) (watched : NumberSet) (flag : Flag) (c : Computation) (x : Step) (p : ℕ) (s : ProbeState)
    → is_communication_of p x ≡ false → PutsNoFlagUp watched flag c x p
    → IsTrue s.flag_up ↔ IsFlagUp watched flag c (local_state p (communications c p))
    → IsTrue s.flag_up ↔ IsFlagUp watched flag (c ++ x ∷ []) (local_state p (communications (c ++ x ∷ []) p))
flag_stays n watched flag c x p s quiet down is =
    let other : resets flag p x ≡ false = false_from_ne_true (resets flag p x)
    (λ resetting. true≢false (sym (resets_event flag p x resetting) ∙ quiet)) in
    (λ set. flag_up_stays watched flag c x p other (is.0 set), λ now. is.1 (down now))

-- a step that is no event of the process, emits none of its states and leaves its flag
stays : (n : ℕ) (watched : NumberSet) (flag : Flag) (c : Computation) (x : Step) (p : ℕ) (s : ProbeState)
    → is_communication_of p x ≡ false → is_close_of p x ≡ false → NoneNew watched flag c (x ∷ []) p
    → PutsNoFlagUp watched flag c x p → HasClockAndEmissions n watched flag c p s
    → HasClockAndEmissions n watched flag (c ++ x ∷ []) p s
stays n watched flag c x p s quiet other none down h = record {
  clock = clock_stays n c x p s.clock quiet h.clock;
  flag_up = flag_stays n watched flag c x p s quiet down h.flag_up;
  closed = h.closed ∙ sym (closed_stays c x p other);
  emissions = emitted_stays n watched flag c (x ∷ []) p s.notes none (closed_stays c x p other) h.emissions;
}

-- an event begins a state, with a clock of its own, and resets the flag or leaves it
begins : (n : ℕ) (watched : NumberSet) (flag : Flag) (c : Computation) (x : Step) (p : ℕ) (s : ProbeState)
    (clock : List ℕ) (up : Bool) → is_communication_of p x ≡ true → is_close_of p x ≡ false
    → NoneNew watched flag c (x ∷ []) p → IsStateClock n (c ++ x ∷ []) (local_state p (communications c p + 1)) clock
    → IsTrue up ↔ ((resets flag p x ≡ false) × IsTrue s.flag_up) → (x ≡ Observe p true → ⊥)
    → HasClockAndEmissions n watched flag c p s
    → HasClockAndEmissions n watched flag (c ++ x ∷ []) p (record s { clock = clock; flag_up = up })
begins n watched flag c x p s clock up event other none clock_is up_is quiet h =
    let more : communications (c ++ x ∷ []) p ≡ communications c p + 1 =
    communications_push c x p 1 (ap (λ b. cond b 1 0) event) in
    record {
      clock = subst (λ k. IsStateClock n (c ++ x ∷ []) (local_state p k) clock) (sym more) clock_is;
      flag_up = (
        λ set. let (kept, was) = up_is.0 set in flag_up_stays watched flag c x p kept (h.flag_up.0 was),
        λ now. let (kept, was) = flag_was_up watched flag c x p quiet now in up_is.1 (kept, h.flag_up.1 was),
      );
      closed = h.closed ∙ sym (closed_stays c x p other);
      emissions = emitted_stays n watched flag c (x ∷ []) p s.notes none (closed_stays c x p other) h.emissions;
    }

-- while the flag is up a true observation emits nothing
none_while_up : (watched : NumberSet) (flag : Flag) (c : Computation) (p : ℕ)
    → IsFlagUp watched flag c (local_state p (communications c p)) → NoneNew watched flag c (Observe p true ∷ []) p
none_while_up watched flag c p up k is =
    let d : Computation = c ++ Observe p true ∷ [] in
    ⊎_elim (λ (old : IsEmittedState watched flag c (local_state p k)). old)
    (λ (new : (Observe p true ≡ Observe p true) × (communications c p ≡ k)).
    elim (cases_lt up.since k) [
      | inl earlier ↦
          let grown = true_state_grows c (Observe p true ∷ []) (local_state p up.since) up.true_state in
          let reset = reset_shrinks flag p up.since k c (Observe p true ∷ []) (omega (arith, new.1))
          (is.first up.since earlier grown) in
          absurd (up.still_up (subst (WasReset flag c p up.since) (sym new.1) reset))
      | inr here ↦
          let same : up.since ≡ k = omega (arith, up.order, new.1) in
          emitted_state_of_prefix watched flag c (Observe p true ∷ []) (local_state p k)
          (subst (λ i. IsTrueState c (local_state p i)) same up.true_state) is
    ])
    (emitted_state_cases watched flag c (Observe p true) (local_state p k) is)

-- the first true observation since the flag was reset
observes_first : (n : ℕ) (watched : NumberSet) (flag : Flag) (c : Computation) (p : ℕ) (s : ProbeState)
    → set.contains watched p ≡ true → is_closed c p ≡ false → s.flag_up ≡ false → CountsNotes s
    → HasClockAndEmissions n watched flag c p s
    → HasClockAndEmissions n watched flag (c ++ Observe p true ∷ []) p
    (record s { flag_up = true; snapshots = s.snapshots + 1; notes = s.notes ++ note.Snap s.snapshots s.clock ∷ [] })
observes_first n watched flag c p s is_watched is_open clear counts h =
    let d : Computation = c ++ Observe p true ∷ [] in
    let k : ℕ = communications c p in
    let same : communications d p ≡ k = omega (arith, communications_push c (Observe p true) p 0 refl) in
    let truth : IsTrueState d (local_state p k) = record {
      place = length c;
      observed = get_behind c (Observe p true) [];
      within = interval_at_seam c (Observe p true ∷ []) p;
    } in
    let down : IsFlagUp watched flag c (local_state p k) → ⊥ = λ up. true≢false (sym (h.flag_up.1 up) ∙ clear) in
    let now : IsEmittedState watched flag d (local_state p k) = record {
      watched_process = is_watched;
      true_state = truth;
      first = λ i below true_state.
          let old = true_state_shrinks c (Observe p true ∷ []) (local_state p i) below true_state in
          ⊎_elim (λ (reset : WasReset flag c p i k). reset_grows flag p i k c (Observe p true ∷ []) reset)
          (λ (none : WasReset flag c p i k → ⊥). absurd (down (record {
            watched_process = is_watched;
            since = i;
            order = omega arith;
            true_state = old;
            still_up = none;
          })))
          (reset_decided flag p i k c);
    } in
    record {
      clock = clock_stays n c (Observe p true) p s.clock refl h.clock;
      flag_up = grind arith;
      closed = h.closed ∙ sym (closed_stays c (Observe p true) p refl);
      emissions = rw (counts.snapshots ∙ ap length (emitted_clocks n watched flag c p s.notes h.emissions))
          (emitted_snapshot n watched flag c (Observe p true ∷ []) p k s.notes s.clock is_open
          (closed_stays c (Observe p true) p refl ∙ is_open)
          (λ j is. elim (cases_lt j k) [
            | inl below ↦ below
            | inr above ↦ absurd (down (record {
              watched_process = is_watched;
              since = j;
              order = emitted_state_exists watched flag c (local_state p j) is;
              true_state = is.true_state;
              still_up = λ reset. absurd (omega (arith, reset.from, reset.before));
            }))
          ])
          (λ j is. ⊎_elim (λ (old : IsEmittedState watched flag c (local_state p j)). inl old) (λ new. inr new.1)
          (emitted_state_cases watched flag c (Observe p true) (local_state p j) is))
          now (clock_grows n c (Observe p true ∷ []) (local_state p k) s.clock (le_refl k) h.clock) h.emissions);
    }

-- an observation of a process that isn't watched, or while the flag is up, emits nothing
observed_again : (made : ProbeSetup) (s : ProbeState) → (not made.watched || s.flag_up) ≡ true
    → after_call made s (Observed true) ≡ s
observed_again made s quiet = rw quiet refl

observed_first : (made : ProbeSetup) (s : ProbeState) → (not made.watched || s.flag_up) ≡ false
    → after_call made s (Observed true) ≡ record s {
      flag_up = true;
      snapshots = s.snapshots + 1;
      notes = s.notes ++ note.Snap s.snapshots s.clock ∷ [];
    }
observed_first made s loud = rw loud refl

-- a true observation
observes : (n : ℕ) (watched : NumberSet) (flag : Flag) (c : Computation) (p : ℕ) (s : ProbeState)
    → is_closed c p ≡ false → CountsNotes s → HasClockAndEmissions n watched flag c p s → HasClockAndEmissions n watched
    flag (c ++ Observe p true ∷ []) p (after_call (setup n watched flag p) s (Observed true))
observes n watched flag c p s is_open counts h =
    let up = IsFlagUp watched flag c (local_state p (communications c p)) in
    let never : set.contains watched p ≡ false → NoneNew watched flag c (Observe p true ∷ []) p =
    λ out k is. absurd (true≢false (sym is.watched_process ∙ out)) in
    let same =
    λ (quiet : NoneNew watched flag c (Observe p true ∷ []) p) (down : PutsNoFlagUp watched flag c (Observe p true) p).
    stays n watched flag c (Observe p true) p s refl refl quiet down h in
    let made = setup n watched flag p in
    let after = HasClockAndEmissions n watched flag (c ++ Observe p true ∷ []) p in
    elim (cases_Bool (set.contains watched p)) [
      | inl is_watched ↦ elim (cases_Bool s.flag_up) [
        | inl set ↦ subst after (sym (observed_again made s (rw (is_watched, set) refl)))
            (same (none_while_up watched flag c p (h.flag_up.0 set)) (λ now. h.flag_up.0 set))
        | inr clear ↦ subst after (sym (observed_first made s (rw (is_watched, clear) refl)))
            (observes_first n watched flag c p s is_watched is_open clear counts h)
      ]
      | inr out ↦ subst after (sym (observed_again made s (rw out refl)))
          (same (never out) (λ now. absurd (true≢false (sym now.watched_process ∙ out))))
    ]

-- a send
sends : (n : ℕ) (watched : NumberSet) (flag : Flag) (c : Computation) (p to : ℕ) (s : ProbeState) → p < n
    → HasClockAndEmissions n watched flag c p s
    → HasClockAndEmissions n watched flag (c ++ Send p to ∷ []) p (after_call (setup n watched flag p) s Sent)
sends n watched flag c p to s in_range h =
    let k : ℕ = communications c p in
    begins n watched flag c (Send p to) p s (slice_set s.clock p (slice_index s.clock p + 1)) false
    (eq-eqb p p refl) refl (none_new watched flag c (Send p to) p (λ e. cc e))
    (clock_after_send n (c ++ Send p to ∷ []) p k to (length c) s.clock in_range (get_behind c (Send p to) [])
    (interval_at_seam c (Send p to ∷ []) p)
    (clock_grows n c (Send p to ∷ []) (local_state p k) s.clock (le_refl k) h.clock))
    (λ set. absurd (true≢false (sym set)), λ kept. absurd (true≢false (sym (send_resets flag p to) ∙ kept.0)))
    (λ e. cc e)
    h

-- a receive leaves the flag up, where it doesn't reset it
up_after_receive : (flag : Flag) (p message : ℕ) (up : Bool)
    → IsTrue (is_up_after_receive flag up) ↔ ((resets flag p (Recv p message) ≡ false) × IsTrue up)
up_after_receive reset_at.Event p message up = grind arith
up_after_receive reset_at.Send p message up = (λ set. (refl, set), λ kept. kept.1)

-- a receive, of a message whose stamp has the clock of the state behind its send
receives : (n : ℕ) (watched : NumberSet) (flag : Flag) (c : Computation) (p message : ℕ) (stamp : List ℕ)
    (s : ProbeState) → p < n → IsStampOf n c message stamp → HasClockAndEmissions n watched flag c p s →
    HasClockAndEmissions n watched flag (c ++ Recv p message ∷ []) p
    (after_call (setup n watched flag p) s (Received stamp))
receives n watched flag c p message stamp s in_range is h =
    let x : Step = Recv p message in
    let d : Computation = c ++ x ∷ [] in
    let k : ℕ = communications c p in
    let j : ℕ = interval_at c is.from is.sent in
    let link : IsMessage d (local_state is.from j) (local_state p (k + 1)) = record {
      sent = is.sent;
      received = length c;
      to = is.to;
      later = slice_get_within c is.sent (Send is.from is.to) is.send;
      send = at_grows c (x ∷ []) is.sent (Send is.from is.to) is.send;
      receive = get_behind c x []
          ∙ ap (λ m. Some (Recv p m)) (sym (message_grows c (x ∷ []) is.sent (Send is.from is.to) is.send ∙ is.number));
      from_state = interval_grows c (x ∷ []) is.from is.sent (Send is.from is.to) is.send;
      to_state = ap (λ i. i + 1) (interval_at_seam c (x ∷ []) p);
    } in
    begins n watched flag c x p s (slice_set (merged s.clock stamp) p (slice_index s.clock p + 1))
    (is_up_after_receive flag s.flag_up) (eq-eqb p p refl) refl (none_new watched flag c x p (λ e. cc e))
    (clock_after_receive n d (local_state is.from j) p k s.clock stamp in_range link
    (clock_grows n c (x ∷ []) (local_state p k) s.clock (le_refl k) h.clock)
    (clock_grows n c (x ∷ []) (local_state is.from (j + 1)) stamp
    (omega (arith, event_below c is.from j is.sent (event_of_send c is.from j is.to is.sent is.send refl))) is.clock))
    (up_after_receive flag p message s.flag_up) (λ e. cc e)
    h

-- a close
closes : (n : ℕ) (watched : NumberSet) (flag : Flag) (c : Computation) (p : ℕ) (s : ProbeState) → is_closed c p ≡ false
    → CountsNotes s → HasClockAndEmissions n watched flag c p s
    → HasClockAndEmissions n watched flag (c ++ Close p ∷ []) p (after_call (setup n watched flag p) s Closed)
closes n watched flag c p s is_open counts h =
    let none = none_new watched flag c (Close p) p (λ e. cc e) in
    let closed : is_closed (c ++ Close p ∷ []) p ≡ true =
    grind (arith, list_any-append (is_close_of p) c (Close p ∷ []), eq-eqb p p refl) in
    record {
      clock = clock_stays n c (Close p) p s.clock refl h.clock;
      flag_up =
          flag_stays n watched flag c (Close p) p s refl (not_put_up watched flag c (Close p) p (λ e. cc e)) h.flag_up;
      closed = sym closed;
      emissions = rw (counts.snapshots ∙ ap length (emitted_clocks n watched flag c p s.notes h.emissions))
          (emitted_close n watched flag c (Close p ∷ []) p s.notes none is_open closed h.emissions);
    }

-- a step of another process
passes_by : (n : ℕ) (watched : NumberSet) (flag : Flag) (c : Computation) (x : Step) (p : ℕ) (s : ProbeState)
    → is_step_of p x ≡ false → HasClockAndEmissions n watched flag c p s
    → HasClockAndEmissions n watched flag (c ++ x ∷ []) p s
passes_by n watched flag c x p s other h =
    stays n watched flag c x p s (grind arith) (grind arith) (none_new watched flag c x p (grind arith))
    (not_put_up watched flag c x p (grind arith)) h

-- a process that has another step was open
was_open : (n : ℕ) (c e : Computation) (x : Step) (p : ℕ) → IsAccepted (c ++ x ∷ e) → is_step_of p x ≡ true
    → is_closed c p ≡ false
was_open n c e x p accepted own = false_from_ne_true (is_closed c p) (λ closed.
    let close = close_stands c p closed in
    true≢false (sym own ∙ accepted.close_last close.0 (length c) p x close.1
    (at_grows c (x ∷ e) close.0 (Close p) close.2) (get_behind c x e)))

-- a message that is received was sent
was_sent : (n : ℕ) (c e : Computation) (p message : ℕ) → IsAccepted (c ++ Recv p message ∷ e)
    → message < count_by is_send c
was_sent n c e p message accepted =
    grind (arith, take_at c (Recv p message ∷ e) (length c) refl, get_behind c (Recv p message) e)

-- each step of the process, with the call that it is
advances : (n : ℕ) (watched : NumberSet) (flag : Flag) (c e : Computation) (p : ℕ) (x : Step) (s : ProbeState) (call :
    Call) → IsAccepted (c ++ x ∷ e) → p < n → is_step_of p x ≡ true → IsCallOf n (c ++ x ∷ e) x call → CountsNotes s →
    HasClockAndEmissions n watched flag c p s
    → HasClockAndEmissions n watched flag (c ++ x ∷ []) p (after_call (setup n watched flag p) s call)
advances n watched flag c e p (Observe q false) s (Observed false) accepted in_range own is counts h =
    stays n watched flag c (Observe q false) p s refl refl (none_new watched flag c (Observe q false) p (λ e. cc e))
    (not_put_up watched flag c (Observe q false) p (λ e. cc e)) h
advances n watched flag c e p (Observe q true) s (Observed true) accepted in_range own is counts h =
    grind (arith, observes n watched flag c p s (was_open n c e (Observe q true) p accepted own) counts h)
advances n watched flag c e p (Observe q true) s (Observed false) accepted in_range own is counts h =
    absurd (true≢false is)
advances n watched flag c e p (Observe q false) s (Observed true) accepted in_range own is counts h =
    absurd (true≢false (sym is))
advances n watched flag c e p (Send q to) s Sent accepted in_range own is counts h =
    grind (arith, sends n watched flag c p to s in_range h)
advances n watched flag c e p (Recv q message) s (Received stamp) accepted in_range own is counts h =
    grind (
      arith,
      receives n watched flag c p message stamp s in_range (stamp_shrinks n c
          (Recv q message ∷ e) message stamp (was_sent n c e q message accepted) is) h,
    )
advances n watched flag c e p (Close q) s Closed accepted in_range own is counts h =
    grind (arith, closes n watched flag c p s (was_open n c e (Close q) p accepted own) counts h)
advances n watched flag c e p x s call accepted in_range own is counts h = absurd is

-- a step of the process, and what the rest of the log then comes to
own_step : (n : ℕ) (watched : NumberSet) (flag : Flag) (c e : Computation) (p : ℕ) (x : Step) (s : ProbeState)
    (calls : List Call) → IsAccepted (c ++ x ∷ e) → p < n → is_step_of p x ≡ true →
    AreCallsOf n (c ++ x ∷ e) (x ∷ filter (is_step_of p) e) calls → CountsNotes s
    → HasClockAndEmissions n watched flag c p s →
    ((t : ProbeState) (rest : List Call) → AreCallsOf n (c ++ x ∷ e) (filter (is_step_of p) e) rest → CountsNotes t
    → HasClockAndEmissions n watched flag (c ++ x ∷ []) p t
    → HasClockAndEmissions n watched flag (c ++ x ∷ e) p (fold (after_call (setup n watched flag p)) t rest)) →
    HasClockAndEmissions n watched flag (c ++ x ∷ e) p (fold (after_call (setup n watched flag p)) s calls)
own_step n watched flag c e p x s [] accepted in_range own are counts h rest = absurd are
own_step n watched flag c e p x s (call ∷ calls) accepted in_range own are counts h rest =
    rest (after_call (setup n watched flag p) s call) calls are.1 (counts_after (setup n watched flag p) s call counts)
    (advances n watched flag c e p x s call accepted in_range own are.0 counts h)

-- from the state after a prefix, the log of the rest leads to the state after the whole
runs_on : (n : ℕ) (watched : NumberSet) (flag : Flag) (p : ℕ) (e c : Computation) (s : ProbeState) (calls : List Call)
    → IsAccepted (c ++ e) → p < n → AreCallsOf n (c ++ e) (filter (is_step_of p) e) calls → CountsNotes s
    → HasClockAndEmissions n watched flag c p s →
    HasClockAndEmissions n watched flag (c ++ e) p (fold (after_call (setup n watched flag p)) s calls)
runs_on n watched flag p [] c s [] accepted in_range are counts h =
    subst (λ d. HasClockAndEmissions n watched flag d p s) (sym (append-nil c)) h
runs_on n watched flag p [] c s (call ∷ calls) accepted in_range are counts h = absurd are
runs_on n watched flag p (x ∷ e) c s calls accepted in_range are counts h =
    let together : (c ++ x ∷ []) ++ e ≡ c ++ x ∷ e = append_assoc c (x ∷ []) e in
    let rest : (t : ProbeState) (rest : List Call) → AreCallsOf n (c ++ x ∷ e) (filter (is_step_of p) e) rest
    → CountsNotes t → HasClockAndEmissions n watched flag (c ++ x ∷ []) p t
    → HasClockAndEmissions n watched flag (c ++ x ∷ e) p (fold (after_call (setup n watched flag p)) t rest) =
    λ t calls. grind (
      arith,
      runs_on n watched flag p e (c ++ x ∷ []) t calls (subst (IsAccepted) (sym together) accepted) in_range,
    ) in
    elim (cases_Bool (is_step_of p x)) [
      | inl own ↦ own_step n watched flag c e p x s calls accepted in_range own (rw own at are) counts h rest
      | inr other ↦ rest s calls (rw other at are) counts (passes_by n watched flag c x p s other h)
    ]

-- before the first step
at_first : (n : ℕ) (watched : NumberSet) (flag : Flag) (p : ℕ) → p < n
    → HasClockAndEmissions n watched flag [] p (state_of_log (setup n watched flag p) [])
at_first n watched flag p in_range = record {
  clock = clock_at_first n [] p in_range;
  flag_up = (
    λ set. absurd (true≢false (sym set)),
    λ up. absurd (omega (arith, slice_get_within [] up.true_state.place (Observe p true) up.true_state.observed)),
  );
  closed = refl;
  emissions = record {
    intervals = [];
    states = grind arith;
    clocks = [];
    same_length = refl;
    each = λ i below. absurd (omega arith);
    notes_are = refl;
  };
}

-- the log law
pub log_law_holds : LogLaw
log_law_holds n watched flag c p log accepted in_range is =
    runs_on n watched flag p c [] (state_of_log (setup n watched flag p) []) log accepted in_range is
    (log_counts_notes n watched flag p []) (at_first n watched flag p in_range)
