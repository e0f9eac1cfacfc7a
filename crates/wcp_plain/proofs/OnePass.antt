use Rattle.wcp_plain.proofs.Words.{◌≡◌, ◌==◌, ℕ, ◌+◌, ◌<◌, ◌≤◌, ◌⊎◌, ◌↔◌, Bool, true, false, List, [], ◌∷◌, ◌++◌}
use Rattle.wcp_plain.proofs.Words.{length, slice_get, Some, Contains, IsTrue, if◌then◌else◌, refl, sym, ◌∙◌, ap, subst}
use Rattle.wcp_plain.proofs.Words.{inl, inr, ⊎_elim, arith, cases_lt, cases_eq, eq-eqb, ne_eqb, slice_get_within}
use Rattle.wcp_plain.proofs.Words.{same_Some, State, Step, Send, Recv, Computation, is_communication_of, is_send}
use Rattle.wcp_plain.proofs.Words.{interval_at, message_at, HappenedBefore, state_at, AtOrAfter, Carries, same_state}
use Rattle.wcp_plain.proofs.Words.{interval_at-event, interval_at-other, before_next, before_receive, comes_from}
use Rattle.std.proofs.lemmas.List.{length_push}
use Rattle.wcp_model.proofs.Growth.{get_front, get_behind}
use Rattle.wcp_model.proofs.Places.{count_before-yes, count_before-no, count_before-mono}

-- no message is carried before it is sent
carries_below : (c : Computation) (s : State) (place message : ℕ) → Carries c s place message
    → message < message_at c place
carries_below c s place message carries =
    grind (
      arith,
      count_before-yes is_send c carries.0 (Send carries.2.process carries.2.to) carries.2.send refl,
      count_before-mono is_send c (carries.0 + 1) place (omega (arith, carries.1)),
    )

-- a process has reached a state if it is after it or in it
abbrev pub HasReached : State → ℕ → List ℕ → ℕ → Type 0
HasReached s interval after p = Contains after p ⊎ (p ≡ s.process) × (interval ≡ s.interval)

-- what one pass knows at a place of what a state happened before: the interval of the state's process, the processes
-- after
-- the state, and of each message so far whether it was sent in the state or after it
pub record IsPass (c : Computation) (s : State) (place interval : ℕ) (after : List ℕ)
    (carries : List Bool) : Type 0 where
  pub interval_is : interval ≡ interval_at c s.process place
  pub after_is : (p : ℕ) → Contains after p ↔ HappenedBefore c s (state_at c p place)
  pub messages : length carries ≡ message_at c place
  pub carries_is : (message : ℕ) → (slice_get carries message ≡ Some true) ↔ Carries c s place message

module _ (c : Computation) (s : State) (place interval : ℕ) (after : List ℕ) (carries : List Bool)
    (pass : IsPass c s place interval after carries) where
  -- the processes that have reached the state are those that are in it or after it
  reached_is : (p : ℕ) → HasReached s interval after p ↔ AtOrAfter c s (state_at c p place)
  reached_is p = (
    λ reached. elim reached [
      | inl contains ↦ inr ((pass.after_is p).0 contains)
      | inr at ↦ inl
          (same_state s (state_at c p place) (cc) (let now = pass.interval_is in cc))
    ],
    λ from. elim from [ inl same ↦ inr (cc, cc pass.interval_is) | inr before ↦ inl ((pass.after_is p).1 before) ],
  )

  -- a step that is no send carries no message
  carries_kept : (step : Step) → slice_get c place ≡ Some step → is_send step ≡ false → (message : ℕ)
      → (slice_get carries message ≡ Some true) ↔ Carries c s (place + 1) message
  carries_kept step here no_send message = grind (arith, pass.carries_is message)

  -- a step that begins no state and sends no message leaves what is known
  pub pass_other : (step : Step) → slice_get c place ≡ Some step → ((p : ℕ) → is_communication_of p step ≡ false)
      → is_send step ≡ false → IsPass c s (place + 1) interval after carries
  pass_other step here no_event no_send =
      let stays : (p : ℕ) → interval_at c p (place + 1) ≡ interval_at c p place =
      λ p. interval_at-other c p place step here (no_event p) in
      record {
        interval_is = pass.interval_is ∙ sym (stays s.process);
        after_is = λ p. rw (stays p) (pass.after_is p);
        messages = pass.messages ∙ sym (count_before-no is_send c place step here no_send);
        carries_is = carries_kept step here no_send;
      }

  -- the state that a send begins is after the state, if the sender has reached it
  pub sent_is : (p to : ℕ) (later : Bool) → slice_get c place ≡ Some (Send p to)
      → IsTrue later ↔ HasReached s interval after p → IsTrue later ↔ HappenedBefore c s (state_at c p (place + 1))
  sent_is p to later here is =
      let own = eq-eqb p p refl in
      grind (
        arith,
        reached_is p,
        before_next c s p place (Send p to) here own,
        comes_from c s p place (Send p to) here own,
      )

  -- the state that a receive begins is after the state, if the receiver has reached it or its message was sent there
  pub received_is : (p message : ℕ) (later : Bool) → slice_get c place ≡ Some (Recv p message)
      → IsTrue later ↔ (HasReached s interval after p ⊎ slice_get carries message ≡ Some true)
      → IsTrue later ↔ HappenedBefore c s (state_at c p (place + 1))
  received_is p message later here is =
      let own = eq-eqb p p refl in
      grind (
        arith,
        reached_is p,
        pass.carries_is message,
        before_receive c s p place message here,
        before_next c s p place (Recv p message) here own,
        comes_from c s p place (Recv p message) here own,
      )

  -- an event of process p puts it after the state or not, and leaves the others
  after_event : (p : ℕ) (step : Step) (later : Bool) (grown : List ℕ) → slice_get c place ≡ Some step
      → ((q : ℕ) → is_communication_of q step ≡ (p == q)) → IsTrue later ↔ HappenedBefore c s (state_at c p (place + 1))
      → ((q : ℕ) → Contains grown q ↔ (Contains after q ⊎ (q ≡ p) × IsTrue later)) → (q : ℕ)
      → Contains grown q ↔ HappenedBefore c s (state_at c q (place + 1))
  after_event p step later grown here event is grows q =
      ⊎_elim
      (λ (same : q ≡ p).
      let own : is_communication_of q step ≡ true = event q ∙ eq-eqb p q (sym same) in (
        λ contains.
            ⊎_elim (λ (already : Contains after q). before_next c s q place step here own
            (inr ((pass.after_is q).0 already)))
            (λ (now : (q ≡ p) × IsTrue later). rw same (is.0 now.1))
            ((grows q).0 contains),
        λ before. (grows q).1 (inr (same, is.1 (rw same at before))),
      ))
      (λ (other : q ≡ p → ⊥).
      let stays : interval_at c q (place + 1) ≡ interval_at c q place =
      interval_at-other c q place step here (event q ∙ ne_eqb p q (λ same. other (sym same))) in
      rw stays (grind (arith, grows q, pass.after_is q)))
      (cases_eq q p)

  -- an event of process p counts for the state's process, if that is p
  interval_event : (p : ℕ) (step : Step) → slice_get c place ≡ Some step → is_communication_of s.process step
      ≡ (p == s.process) → (if p == s.process then interval + 1 else interval) ≡ interval_at c s.process (place + 1)
  interval_event p step here event = grind (arith, interval_at-event, interval_at-other)

  -- a send carries its message, if the sender has reached the state
  carries_more : (p to : ℕ) (later : Bool) → slice_get c place ≡ Some (Send p to)
      → IsTrue later ↔ HasReached s interval after p → (message : ℕ)
      → (slice_get (carries ++ later ∷ []) message ≡ Some true) ↔ Carries c s (place + 1) message
  carries_more p to later here is message = (
    λ some.
        ⊎_elim
        (λ (below : message < length carries).
        let carried = (pass.carries_is message).0 (sym (get_front carries (later ∷ []) message below) ∙ some) in
        (carried.0, omega (arith, carried.1), carried.2))
        (λ (above : length carries ≤ message).
        let within = slice_get_within (carries ++ later ∷ []) message true some in
        let last : length carries ≡ message = omega (arith, within, length_push carries later) in
        let yes : later ≡ true = same_Some _ _
        (sym (get_behind carries later []) ∙ ap (λ k. slice_get (carries ++ later ∷ []) k) last ∙ some) in (
          place,
          omega arith,
          record {
            process = p;
            to = to;
            send = here;
            number = sym pass.messages ∙ last;
            reached = (reached_is p).0 (is.0 yes);
          },
        ))
        (cases_lt message (length carries)),
    λ carried.
        let sent = carried.0 in
        let from = carried.2 in
        ⊎_elim
        (λ (below : sent < place).
        let earlier : Carries c s place message = (sent, below, from) in
        get_front carries (later ∷ []) message (omega (arith, carries_below c s place message earlier, pass.messages))
        ∙ (pass.carries_is message).1 earlier)
        (λ (above : place ≤ sent).
        let at : sent ≡ place = omega (arith, carried.1) in
        let last : length carries ≡ message = pass.messages ∙ ap (λ k. message_at c k) (sym at) ∙ from.number in
        let send : Send p to ≡ Send from.process from.to =
        same_Some _ _ (sym here ∙ ap (λ k. slice_get c k) (sym at) ∙ from.send) in
        let sender : from.process ≡ p = cc in
        let reached : AtOrAfter c s (state_at c p place) = subst (λ k. AtOrAfter c s (state_at c p k)) at (subst
        (λ q. AtOrAfter c s (state_at c q sent)) sender from.reached) in
        let yes : later ≡ true = is.1 ((reached_is p).1 reached) in
        ap (λ k. slice_get (carries ++ later ∷ []) k) (sym last) ∙ get_behind carries later [] ∙ ap (λ b. Some b) yes)
        (cases_lt sent place),
  )

  -- what is known after a send
  pub pass_send : (p to : ℕ) (later : Bool) (grown : List ℕ) → slice_get c place ≡ Some (Send p to) → IsTrue later
      ↔ HasReached s interval after p → ((q : ℕ) → Contains grown q ↔ (Contains after q ⊎ (q ≡ p) × IsTrue later))
      → IsPass c s (place + 1) (if p == s.process then interval + 1 else interval) grown (carries ++ later ∷ [])
  pass_send p to later grown here is grows =
      record {
        interval_is = interval_event p (Send p to) here refl;
        after_is = after_event p (Send p to) later grown here (λ q. refl) (sent_is p to later here is) grows;
        messages = length_push carries later ∙ ap (λ k. k + 1) pass.messages
            ∙ sym (count_before-yes is_send c place (Send p to) here refl);
        carries_is = carries_more p to later here is;
      }

  -- what is known after a receive
  pub pass_receive : (p message : ℕ) (later : Bool) (grown : List ℕ) → slice_get c place ≡ Some (Recv p message)
      → IsTrue later ↔ (HasReached s interval after p ⊎ slice_get carries message ≡ Some true)
      → ((q : ℕ) → Contains grown q ↔ (Contains after q ⊎ (q ≡ p) × IsTrue later))
      → IsPass c s (place + 1) (if p == s.process then interval + 1 else interval) grown carries
  pass_receive p message later grown here is grows =
      record {
        interval_is = interval_event p (Recv p message) here refl;
        after_is =
            after_event p (Recv p message) later grown here (λ q. refl) (received_is p message later here is) grows;
        messages = pass.messages ∙ sym (count_before-no is_send c place (Recv p message) here refl);
        carries_is = carries_kept (Recv p message) here refl;
      }
