use Rattle.wcp_world.proofs.Words.{NumberSet, Flag, first_reason, ◌≡◌, Bool, true, false, is_some, List, [], ◌∷◌, map}
use Rattle.wcp_world.proofs.Words.{Option, None, Some, if◌then◌else◌, refl, arith, ◌≢◌, ℕ, ◌+◌, ◌<◌, ◌≤◌, ◌↔◌, cond}
use Rattle.wcp_world.proofs.Words.{nat_lt, nat_le, IsTrue, MatchOption, ◌++◌, length, slice_get, slice_index, count_by}
use Rattle.wcp_world.proofs.Words.{set, eqb, sym, ap, ◌∙◌, subst₂, ⊎_elim, append-nil, eq-eqb, option_map}
use Rattle.wcp_world.proofs.Words.{option_to_list, Why, why_of, delivery_reasons, IsPosted, IsDelivered, cases_eq}
use Rattle.wcp_world.proofs.Words.{ne_eqb, nat_tests, set-get_or, take_at, sum_by_push, get_or_from_slice_get}
use Rattle.wcp_world.proofs.Words.{slice_get_past, slice_get_within, MatchOption-at_some, MatchOption-at_none}
use Rattle.wcp_world.proofs.Words.{most_events, Note, Step, Observe, Send, Recv, Close, Reply, Done, Refused}
use Rattle.wcp_world.proofs.Words.{Computation, is_communication_of, is_send, communications, interval_at, is_closed}
use Rattle.wcp_world.proofs.Words.{Call, Observed, Sent, Received, Closed, ProbeSetup, after_call, setup, is_step_of}
use Rattle.wcp_world.proofs.Words.{IsStampOf, IsCallOf, IsAccepted, accepted_by, event_reasons, get_behind, stamp_grows}
use Rattle.wcp_world.proofs.Words.{log_grows, length-receivers, local_state, Stamped, Core, Accepts, IsSameProbe}
use Rattle.wcp_world.proofs.Words.{seal_of, Letter, IsAnswer, KeepsIfRefused, ProcessesState, AreProcessesOf, IsProbeOf}
use Rattle.wcp_world.proofs.Words.{AreLettersOf, pending_at}
use Rattle.wcp_model.specs.declared.step.Why.TheVariants as why
use Rattle.wcp_probe.specs.declared.probe.Refusal.{Refusal}
use Rattle.wcp_probe.specs.declared.probe.Refusal.TheVariants as refusal
use Rattle.wcp_clock.specs.declared.note.Note.TheVariants as note
use Rattle.wcp_model.specs.StateClock.{IsStateClock}
use Rattle.wcp_model.proofs.FirstReasons.{none_holds}
use Rattle.wcp_model.proofs.AcceptedSteps.{accepted_push}
use Rattle.wcp_model.proofs.Flags.{interval_at_seam}
use Rattle.wcp_model.proofs.TaskLogs.{log_push}
use Rattle.wcp_probe.specs.Refusals.{at_clock_end, observe_refusal, close_refusal, stamp_refusal}
use Rattle.std.proofs.Common.{inl, inr, ◌-◌}
use Rattle.std.proofs.lemmas.Bool.{cases_Bool}
use Rattle.wcp_model.specs.declared.step.Step.TheVariants.{Dropped}
use Rattle.wcp_model.specs.Emission.{is_drop_of, is_dropped, has_ended}
use Rattle.wcp_world.specs.Processes.{IsLostProbeOf}
use Rattle.wcp_world.proofs.Probes.{addressed_is, not_ahead, letters_stay, letters_posted, letters_delivered, clock_is}
use Rattle.wcp_world.proofs.Probes.{law_of_probe, state, observed, closed, neither, drops_none, dropped_stays}
use Rattle.wcp_world.proofs.Probes.{dropped_now, closed_stays, probe_stays, other_stands, one_set, lost_probe}
use Rattle.wcp_world.proofs.Probes.{put_counted, KeepsLog, keeps_log}

one_reason : (b : Bool) (reason : Refusal) (rest : Option Refusal) (others : Option Why)
    → others ≡ option_map why_of rest →
    (if b then Some (why_of reason) else others) ≡ option_map why_of (if b then Some reason else rest)
one_reason b reason rest others same = grind arith

-- the reasons of an event are those of its probe
pub first_maps : (list : List (Bool × Refusal))
    → first_reason (map (λ r. (r.0, why_of r.1)) list) ≡ option_map why_of (first_reason list)
first_maps [] = refl
first_maps (reason ∷ list) = one_reason reason.0 reason.1 (first_reason list) _ (first_maps list)

-- a message that fits its probe is refused at the end of the clock alone
pub only_clock_end : (closed backlog ended : Bool) →
    first_reason ((closed, why.Closed) ∷ (backlog, why.Backlog) ∷ (ended, why.ClockEnd) ∷ []) ≡ first_reason
    ((closed, why.Closed) ∷ (backlog, why.Backlog)
    ∷ (
      is_some (first_reason ((closed, refusal.Closed) ∷ (backlog, refusal.Backlog) ∷ (false, refusal.Stranger)
          ∷ (false, refusal.NotMine) ∷ (false, refusal.Ahead) ∷ (ended, refusal.ClockEnd) ∷ [])),
      why.ClockEnd,
    ) ∷ [])
only_clock_end closed backlog ended = grind arith

-- a probe that is willing to close has nothing pending
nothing_pending : (core : Core) → close_refusal core ≡ None → core.pending ≡ None
nothing_pending core willing = grind arith

-- the second reason against an event is that its process has ended
ended_is_second : (n : ℕ) (c : Computation) (pending : ℕ → Bool) (s : Step) (q : ℕ) → is_step_of q s ≡ true
    → slice_get (event_reasons n c pending s) 1 ≡ Some (has_ended c q, why.Closed)
ended_is_second n c pending s q own = grind arith

-- the clock after a send is that of the state behind it
stamp_of_send : (n : ℕ) (watched : NumberSet) (flag : Flag) (c : Computation) (p to : ℕ) (put : List Note) (new : Core)
    → p < n → IsAccepted (c ++ Send p to ∷ []) →
    IsProbeOf n watched flag (c ++ Send p to ∷ []) p put new
    → IsStampOf n (c ++ Send p to ∷ []) (count_by is_send c) new.clock
stamp_of_send n watched flag c p to put new in_range order is =
    let d = c ++ Send p to ∷ [] in
    let own : eqb p p ≡ true = eq-eqb p p refl in
    let last : communications d p ≡ interval_at d p (length c) + 1 = grind (
      arith,
      sum_by_push (λ x. cond (is_communication_of p x) 1 0) c (Send p to),
      interval_at_seam c (Send p to ∷ []) p,
    ) in
    record {
      sent = length c;
      from = p;
      to = to;
      send = get_behind c (Send p to) [];
      number = ap (count_by is_send) (take_at c (Send p to ∷ []) (length c) refl);
      clock = subst₂ (λ k clock. IsStateClock n d (local_state p k) clock) last (sym
          (clock_is n watched flag d p put new is)) (law_of_probe n watched flag d p put new is order in_range).clock;
    }

module _ (n : ℕ) (watched : NumberSet) (flag : Flag) (c : Computation) (put : ℕ → List Note) (app : ProcessesState)
    (stands : AreProcessesOf n watched flag c put app)
    (p : ℕ) (core : Core) (at : slice_get app.probes p ≡ Some core) where
  in_range : p < n
  in_range = omega (arith, slice_get_within app.probes p core at, stands.members)

  within : nat_lt p n ≡ true
  within = let lt : p < n = in_range in grind (arith, nat_tests)

  keeps : KeepsLog n watched flag c p core
  keeps = keeps_log n watched flag c put app stands p core at in_range

  id_is : core.id ≡ p
  id_is = ap (λ (made : ProbeSetup). made.process) keeps.made

  length_is : length core.clock ≡ n
  length_is = ap (λ (made : ProbeSetup). made.processes) keeps.made

  -- a probe that is open stands for the log of its process, which is neither closed nor lost
  open_is : core.closed ≡ false → (is_closed c p ≡ false) × (is_dropped c p ≡ false)
  open_is willing = neither (is_closed c p) (is_dropped c p) (keeps.ended ∙ willing)

  abbrev live : core.closed ≡ false → IsProbeOf n watched flag c p (put p) core
  live willing = stands.probes p core at (open_is willing).1

  -- and its clock counts the process's events
  events_are : core.closed ≡ false → slice_index core.clock p ≡ communications c p
  events_are willing =
      ap (λ v. slice_index v p) (clock_is n watched flag c p (put p) core (live willing))
      ∙ (law_of_probe n watched flag c p (put p) core (live willing) stands.order in_range).clock.own

  clock_end_is : core.closed ≡ false → nat_le most_events (communications c p) ≡ at_clock_end core
  clock_end_is willing = rw ((live willing).limit, id_is, events_are willing) refl

  -- the reasons to refuse an event are those of the probe
  abbrev reasons : Step → List (Bool × Why)
  reasons s = event_reasons n c (λ q. is_some (pending_at app q)) s

  pub observe_reasons : (holds : Bool)
      → first_reason (reasons (Observe p holds)) ≡ option_map why_of (observe_refusal core)
  observe_reasons holds = rw (within, keeps.ended) (first_maps ((core.closed, refusal.Closed) ∷ []))

  pub close_reasons : first_reason (reasons (Close p)) ≡ option_map why_of (close_refusal core)
  close_reasons = rw (within, keeps.ended, at)
      (first_maps ((core.closed, refusal.Closed) ∷ (is_some core.pending, refusal.Backlog) ∷ []))

  pub send_reasons : (to : ℕ) → first_reason (reasons (Send p to)) ≡ option_map why_of (stamp_refusal core to)
  send_reasons to = grind (arith, cases_Bool core.closed, clock_end_is, keeps.ended, id_is, length_is, within)

  pub lose_reasons : first_reason (reasons (Dropped p)) ≡ (if core.closed then Some why.Closed else None)
  lose_reasons = rw (within, keeps.ended) refl

  message_reasons : core.closed ≡ false → (number : ℕ) (letter : Letter) → slice_get app.letters number ≡ Some letter
      → letter.to ≡ p → (o : Option (Stamped (Unit {0}))) → letter.message ≡ o →
      first_reason (reasons (Recv p number)) ≡ first_reason (delivery_reasons core app.letters p number)
  message_reasons willing number letter there mine None gone =
      let received = MatchOption-at_none _ _ gone (stands.letters.each number letter there) in
      rw (
        within,
        addressed_is n c app.letters stands.letters number p,
        there,
        eq-eqb letter.to p mine,
        gone,
        received,
        keeps.ended,
        at,
      ) refl
  message_reasons willing number letter there mine (Some message) was =
      let mail = MatchOption-at_some _ _ message was (stands.letters.each number letter there) in
      let seal = seal_of message in
      let same_watch = eq-eqb seal.watch core.watch (mail.1 ∙ sym (live willing).watch) in
      let same_length = eq-eqb (length seal.clock) (length core.clock) (mail.3.clock.components ∙ sym length_is) in
      let same_process = eq-eqb seal.to core.id (mail.2 ∙ mine ∙ sym id_is) in
      let own : slice_index seal.clock p ≤ slice_index core.clock p =
      omega (arith, not_ahead n c number p seal.clock in_range mail.3, events_are willing) in
      let behind : nat_lt (slice_index core.clock p) (slice_index seal.clock p) ≡ false = grind (arith, nat_tests) in
      let ahead : nat_lt (slice_index core.clock core.id) (slice_index seal.clock core.id) ≡ false = rw id_is behind in
      rw (
        within,
        addressed_is n c app.letters stands.letters number p,
        there,
        eq-eqb letter.to p mine,
        was,
        mail.0,
        keeps.ended,
        at,
        clock_end_is willing,
        same_watch,
        same_length,
        same_process,
        ahead,
      )
      (only_clock_end core.closed (is_some core.pending) (at_clock_end core))

  -- and those to refuse a message are those of its letter
  receive_reasons : (number : ℕ)
      → first_reason (reasons (Recv p number)) ≡ first_reason (delivery_reasons core app.letters p number)
  receive_reasons number = elim (cases_Bool core.closed) [
    | inl ended ↦ rw (within, addressed_is n c app.letters stands.letters number p, keeps.ended, ended) refl
    | inr willing ↦ go willing (slice_get app.letters number) refl
  ]
    where
      go : core.closed ≡ false → (o : Option Letter) → slice_get app.letters number ≡ o
          → first_reason (reasons (Recv p number)) ≡ first_reason (delivery_reasons core app.letters p number)
      go willing None there = rw (within, addressed_is n c app.letters stands.letters number p, there) refl
      go willing (Some letter) there = ⊎_elim
          (λ (mine : letter.to ≡ p). message_reasons willing number letter there mine letter.message refl)
          (λ (other : letter.to ≢ p).
          rw (within, addressed_is n c app.letters stands.letters number p, there, ne_eqb letter.to p other) refl)
          (cases_eq letter.to p)

  module _ (new : Core) where
    -- what is to be shown of the answer to an event, and of the processes after it
    abbrev Performed : Step → Reply → List Letter → Type 0
    Performed s answer letters = IsAnswer (reasons s) answer × AreProcessesOf n watched flag
        (c ++ accepted_by s answer) put (record { probes = set app.probes p new; letters = letters })

    -- an event that is refused
    pub refuses : (s : Step) (why : Why) (letters : List Letter) → new ≡ core → letters ≡ app.letters
        → first_reason (reasons s) ≡ Some why → Performed s (Refused why) letters
    refuses s why letters same same_letters first =
        grind (arith, get_or_from_slice_get app.probes p core core, append-nil c, set-get_or app.probes p core)

    pub refuses_as : (s : Step) (asked : Option Refusal) (refused : Refusal) (why : Why) (letters : List Letter)
        → new ≡ core → letters ≡ app.letters → first_reason (reasons s) ≡ option_map why_of asked → asked ≡ Some refused
        → why ≡ why_of refused → Performed s (Refused why) letters
    refuses_as s asked refused why letters same same_letters first is why_is =
        refuses s why letters same same_letters (first ∙ ap (option_map why_of) is ∙ ap Some (sym why_is))

    module _ (s : Step) (call : Call) (owner : (q : ℕ) → is_step_of q s ≡ eqb p q) (willing : core.closed ≡ false) where
      abbrev is : IsProbeOf n watched flag c p (put p) core
      is = live willing

      abbrev grown : Computation
      grown = c ++ s ∷ []

      -- the probe of the process whose event is new
      own_probe : IsCallOf n grown s call → Accepts core call new → IsSameProbe core new →
          (after_call (setup n watched flag p) (state n watched flag c p (put p) core is) call).notes
          ≡ put p ++ option_to_list new.pending → IsProbeOf n watched flag grown p (put p) new
      own_probe is_call accepted same notes =
          grind (
            arith,
            log_grows n c (s ∷ []) p is.log (call ∷ []) is.is_log (rw (owner p, eq-eqb p p refl)
                (is_call, tt)),
            log_push (setup n watched flag p) is.log call,
          )

      -- the event drops no process
      drops : (q : ℕ) → is_drop_of q s ≡ false
      drops q = drops_none s p q (owner p ∙ eq-eqb p p refl)

      stays : (q : ℕ) → is_dropped grown q ≡ is_dropped c q
      stays q = dropped_stays c s q (drops q)

      -- an event that is accepted
      accepts : (letters : List Letter) → first_reason (reasons s) ≡ None → IsCallOf n grown s call
          → Accepts core call new → IsSameProbe core new →
          (after_call (setup n watched flag p) (state n watched flag c p (put p) core is) call).notes
          ≡ put p ++ option_to_list new.pending
          → (IsAccepted grown → IsProbeOf n watched flag grown p (put p) new → AreLettersOf n grown letters) →
          IsAnswer (reasons s) Done
          × AreProcessesOf n watched flag grown put (record { probes = set app.probes p new; letters = letters })
      accepts letters first is_call accepted same notes letters_are =
          let order : IsAccepted grown =
          accepted_push c s stands.order (λ q own. (neither (is_closed c q) (is_dropped c q) (none_holds (reasons s)
          1 (has_ended c q, why.Closed) (ended_is_second n c (λ x. is_some (pending_at app x)) s q own) first)).0)
          (grind (arith, length-receivers, slice_get_past)) in
          let now : IsProbeOf n watched flag grown p (put p) new = own_probe is_call accepted same notes in (
            rw first refl,
            one_set n watched flag c grown put put app p new letters stands order (letters_are order now)
                (λ _. now, λ gone. cc (gone, stays p, (open_is willing).1))
                (λ q x apart. other_stands n watched flag c s put q x (owner q ∙ ne_eqb p q (λ e. apart (sym e)))
                (drops q))
                (λ q gone. stands.lost_known q (sym (stays q) ∙ gone)),
          )

    -- the process observes its condition
    pub observes : (holds emitted : Bool) → observe_refusal core ≡ None → Accepts core (Observed holds) new
        → IsTrue emitted ↔ (IsTrue holds × (core.watched ≡ true) × (core.flag_up ≡ false))
        → (IsTrue emitted → core.pending ≡ None) →
        new ≡ (if emitted then record core {
          flag_up = true;
          emitted = core.emitted + 1;
          pending = Some (note.Snap core.emitted core.clock);
        } else core) → Performed (Observe p holds) Done app.letters
    observes holds emitted willing accepted emits spared new_is =
        let first = observe_reasons holds ∙ ap (option_map why_of) willing in
        let still_open = none_holds ((core.closed, refusal.Closed) ∷ []) 0 (core.closed, refusal.Closed) refl willing in
        let told = observed n watched flag c p (put p) core (live still_open) new holds emitted emits spared new_is in
        accepts (Observe p holds) (Observed holds) (λ q. refl) still_open app.letters first refl accepted told.0 told.1
        (λ order now. letters_stay n c app.letters stands.letters (Observe p holds) refl (λ message. refl))

    -- the process closes
    pub closes : close_refusal core ≡ None → Accepts core Closed new → new ≡ record core
        { closed = true; pending = Some (note.Close core.emitted) } → Performed (Close p) Done app.letters
    closes willing accepted new_is =
        let first = close_reasons ∙ ap (option_map why_of) willing in
        let still_open = none_holds ((core.closed, refusal.Closed) ∷ (is_some core.pending, refusal.Backlog) ∷ []) 0
        (core.closed, refusal.Closed) refl willing in
        let told = closed n watched flag c p (put p) core (live still_open) new (nothing_pending core willing) new_is in
        accepts (Close p) Closed (λ q. refl) still_open app.letters first tt accepted told.0 told.1
        (λ order now. letters_stay n c app.letters stands.letters (Close p) refl (λ message. refl))

    -- the process sends a message
    pub sends : (to : ℕ) (more : List Letter) → stamp_refusal core to ≡ None → IsPosted core new to app.letters more
        → Performed (Send p to) Done more
    sends to more willing posted =
        let first = send_reasons to ∙ ap (option_map why_of) willing in
        let still_open = sym keeps.ended ∙ none_holds (reasons (Send p to)) 1 (has_ended c p, why.Closed) refl first in
        accepts (Send p to) Sent (λ q. refl) still_open more first tt posted.accepted posted.same
        ((live still_open).notes ∙ ap (λ o. put p ++ option_to_list o) (sym posted.pending))
        (λ order now. rw posted.letters_are (letters_posted n c app.letters stands.letters p to posted.message
        stands.order (posted.watch ∙ (live still_open).watch) posted.addressed
        (rw posted.clock (stamp_of_send n watched flag c p to (put p) new in_range order now))))

    -- the process receives a message, or refuses it
    pub receives : (number : ℕ) (answer : Reply) (fewer : List Letter)
        → IsAnswer (delivery_reasons core app.letters p number) answer
        → (answer ≡ Done → IsDelivered core new app.letters fewer number) →
        KeepsIfRefused core answer new → KeepsIfRefused app.letters answer fewer
        → Performed (Recv p number) answer fewer
    receives number answer fewer answered delivered kept same_letters =
        go (first_reason (delivery_reasons core app.letters p number)) (receive_reasons number) answered
      where
        go : (o : Option Why) → first_reason (reasons (Recv p number)) ≡ o
            → MatchOption o (answer ≡ Done) (λ why. answer ≡ Refused why) → Performed (Recv p number) answer fewer
        go (Some why) first is_refused =
            rw is_refused (refuses (Recv p number) why fewer (kept why is_refused) (same_letters why is_refused) first)
        go None first is_done =
            let d = delivered is_done in
            let mail = MatchOption-at_some _ _ d.message d.was (stands.letters.each number d.letter d.at) in
            let still_open = sym keeps.ended
            ∙ none_holds (reasons (Recv p number)) 1 (has_ended c p, why.Closed) refl first in
            rw is_done
            (accepts (Recv p number) (Received (seal_of d.message).clock) (λ q. refl) still_open fewer first
            (stamp_grows n c (Recv p number ∷ []) number (seal_of d.message).clock mail.3) d.accepted d.same
            ((live still_open).notes ∙ ap (λ o. put p ++ option_to_list o) (sym d.pending))
            (λ order now. rw d.emptied (letters_delivered n c app.letters stands.letters p number d.letter d.at)))

    -- the process is lost
    pub loses : core.closed ≡ false → new ≡ record core { closed = true; pending = None } →
        (first_reason (reasons (Dropped p)) ≡ None)
        × (core.emitted - length (option_to_list core.pending) ≡ length (put p))
        × AreProcessesOf n watched flag (c ++ Dropped p ∷ []) put (record app { probes = set app.probes p new })
    loses willing new_is =
        let grown = c ++ Dropped p ∷ [] in
        let kept : (q : ℕ) → q ≢ p → is_drop_of q (Dropped p) ≡ false = λ q apart. ne_eqb p q (λ e. apart (sym e)) in
        let now : IsLostProbeOf n watched flag grown p (put p) new = rw new_is
        (lost_probe n watched flag grown p (put p) core (probe_stays n watched flag c (Dropped p) p refl (put p) core
        (live willing)) (closed_stays c (Dropped p) p refl ∙ (open_is willing).0)) in (
          lose_reasons ∙ rw willing refl,
          put_counted n watched flag c p (put p) core (live willing) stands.order in_range (open_is willing).0,
          one_set n watched flag c grown put put app p new app.letters stands
              (accepted_push c (Dropped p) stands.order (λ q own. cc own) (λ q message sent. cc sent))
              (letters_stay n c app.letters stands.letters (Dropped p) refl (λ message. refl))
              (λ live. cc (live, dropped_now c p), λ _. now)
              (λ q x apart. other_stands n watched flag c (Dropped p) put q x refl (kept q apart))
              (λ q gone. ⊎_elim
              (λ (same : q ≡ p). rw same in_range)
              (λ (apart : q ≢ p). stands.lost_known q (sym (dropped_stays c (Dropped p) q (kept q apart)) ∙ gone))
              (cases_eq q p)),
        )
