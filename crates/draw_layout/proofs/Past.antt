-- The past of a satisfying cut.
use Rattle.draw_layout.proofs.Words.{◌≡◌, ◌∙◌, ℕ, ◌+◌, ◌<◌, ◌⊎◌, ◌↔◌, List, Some, None, refl, sym, ap, subst, inl, inr}
use Rattle.draw_layout.proofs.Words.{⊎_elim, arith, cases_eq, cases_lt, eq-eqb, and_from, get_or_past, slice_get}
use Rattle.draw_layout.proofs.Words.{same_Some, count_before-yes, count_before-mono, count_before-place, Task}
use Rattle.draw_layout.proofs.Words.{IsFitOrder, IsDelivery, AreSendAndReceive, IsEventAt, is_event_of}
use Rattle.wcp_model.specs.declared.workload.Action.TheVariants as action
use Rattle.std.specs.Prelude.{is_some, unwrap_or}
use Rattle.wcp_clock.specs.ProcessNumbers.{NumberSet}
use Rattle.wcp_model.specs.declared.state.State.{State}
use Rattle.wcp_model.specs.Computation.{Computation, interval_at, is_communication_of, IsState}
use Rattle.wcp_model.specs.Cut.{Intervals, IsSatisfyingCut, member}
use Rattle.wcp_model.specs.Order.{HappenedBefore, DirectlyPrecedes}
use Rattle.wcp_model.specs.Order.HappenedBefore.{Direct, Chain}
use Rattle.wcp_model.specs.Order.DirectlyPrecedes.{Next, Message}
use Rattle.wcp_model.specs.Watched.{IsWatched}
use Rattle.wcp_model.specs.WorkloadComputation.{computation_of}
use Rattle.wcp_model.proofs.MessagesOfOrder.{delivery_step, delivery_of}
use Rattle.wcp_model.proofs.Predecessors.{local_state, before_trans, before_rises, before_later, earlier_before}
use Rattle.wcp_model.proofs.Reached.{AtOrAfter, same_state, one_more_step, true_state_exists, interval_at-le}
use Rattle.wcp_model.proofs.StepsOfOrder.{step_at, interval_at_is}
use Rattle.draw_layout.specs.Halves.{IsMember, IsPast, IsUpTo, IsBefore, state_there}
use Rattle.draw_layout.proofs.Laying.{message_later, receive_event}

-- the first step of a chain
first_step : {c : Computation} {s t : State} → HappenedBefore c s t
    → (u : State) × DirectlyPrecedes c s u × AtOrAfter c u t
first_step {t = t} (Direct step) = (t, step, inl refl)
first_step {c = c} {t = t} (Chain {t = u} chain step) =
    let first = first_step chain in
    (first.0, first.1, inr (one_more_step c first.0 u t first.2 step))

module _ (c : Computation) (cut : Intervals) where
  -- what directly precedes a state up to the cut is in its past, and all that is in its past does
  pub past_from : (s u : State) → DirectlyPrecedes c s u → IsUpTo c cut u → IsPast c cut s
  past_from s u step (inl is) = record { later = u; member = is; before = Direct step }
  past_from s u step (inr past) =
      record { later = past.later; member = past.member; before = before_trans c s u (Direct step) past.before }

  past_first : (s : State) → IsPast c cut s → (u : State) × DirectlyPrecedes c s u × IsUpTo c cut u
  past_first s past =
      let first = first_step past.before in (
        first.0,
        first.1,
        ⊎_elim (λ same. inl (subst (IsMember cut) (sym same) past.member))
            (λ before. inr (record { later = past.later; member = past.member; before = before })) first.2,
      )

module _ (n : ℕ) (watched : NumberSet) (c : Computation) (cut : Intervals) (is : IsSatisfyingCut n watched c cut) where
  -- a member is that of a watched process, and a state
  member_watched : (s : State) → IsMember cut s → IsWatched n watched s.process
  member_watched s named = elim (cases_lt s.process n) [
    | inl below ↦ record { below = below; member = sym (is.members.named s.process below) ∙ ap is_some named }
    | inr past ↦
        let none = get_or_past cut s.process None (omega (arith, is.members.processes)) in
        absurd (cc (none, named))
  ]

  member_is : (s : State) → IsMember cut s → member cut s.process ≡ s
  member_is s named = same_state (member cut s.process) s refl (ap (λ o. unwrap_or o 0) named)

  pub member_exists : (s : State) → IsMember cut s → IsState c s
  member_exists s named = subst (IsState c) (member_is s named)
      (true_state_exists c (member cut s.process) (is.true_states s.process (member_watched s named)))

  -- the members of two processes did not happen before each other
  members_apart : (s t : State) → IsMember cut s → IsMember cut t → (s.process ≡ t.process → ⊥)
      → HappenedBefore c s t → ⊥
  members_apart s t s_is t_is apart before = is.consistent s.process t.process (member_watched s s_is)
      (member_watched t t_is) apart (subst (λ u. HappenedBefore c u (member cut t.process)) (sym (member_is s s_is))
      (subst (HappenedBefore c s) (sym (member_is t t_is)) before))

  -- the process has one member
  below_own : (p k m : ℕ) (t : State) → IsMember cut (local_state p m) → IsMember cut t → p ≡ t.process
      → HappenedBefore c (local_state p k) t → k < m
  below_own p k m t named t_is same before =
      let here = rw same at named in
      let one : t.interval ≡ m = cc (here, t_is) in
      omega (arith, one, before_rises c t.process k t.interval (rw same at before))

  pub member_before : (p k m : ℕ) → IsMember cut (local_state p m) → IsBefore c (Some cut) p k ↔ (k < m)
  member_before p k m named = (
    λ past. elim (cases_eq p past.later.process) [
      | inl same ↦ below_own p k m past.later named past.member same past.before
      | inr apart ↦ elim (cases_lt k m) [
        | inl less ↦ less
        | inr le ↦ absurd (members_apart (local_state p m) past.later named past.member apart
            (earlier_before c p m k le past.before))
      ]
    ],
    λ less. record {
      later = local_state p m;
      member = named;
      before = before_later c p k m less (member_exists (local_state p m) named);
    },
  )

module _ (n : ℕ) (order : List Task) (fit : IsFitOrder order order) where
  -- an event ends the state of its process
  pub interval_rises : {p place : ℕ} → IsEventAt order p place
      → interval_at (computation_of n order) p (place + 1) ≡ interval_at (computation_of n order) p place + 1
  interval_rises {p} {place} event = interval_at_is n order p (place + 1)
      ∙ count_before-yes (is_event_of p) order place event.task event.at event.own
      ∙ ap (λ k. k + 1) (sym (interval_at_is n order p place))

  pub next_step : {p place : ℕ} → IsEventAt order p place
      → DirectlyPrecedes (computation_of n order) (state_there n order p place) (state_there n order p (place + 1))
  next_step {p} {place} event =
      Next refl (sym (interval_rises event)) (interval_at-le (computation_of n order) p (place + 1))

  -- a send is no receive
  send_or_receive : (place p to q from : ℕ) → slice_get order place ≡ Some (record { p = p; action = action.Send to })
      → slice_get order place ≡ Some (record { p = q; action = action.Recv from }) → ⊥
  send_or_receive place p to q from send receive =
      let acts = ap (λ (task : Task). task.action) (same_Some _ _ (sym send ∙ receive)) in
      absurd (cc acts)

  -- a message leads to the state that its receive begins
  pub message_step : {sent received : ℕ} (message : AreSendAndReceive order sent received)
      → DirectlyPrecedes (computation_of n order) (state_there n order message.from sent)
      (state_there n order message.to (received + 1))
  message_step {sent} {received} message =
      let delivery : IsDelivery order message.from message.to sent received = record
      { send = message.send; receive = message.receive; same_rank = sym message.same_number } in
      Message (record {
        sent = sent;
        received = received;
        to = message.to;
        later = message_later fit message;
        send = step_at n order sent _ message.send;
        receive = delivery_step n delivery;
        from_state = refl;
        to_state = sym (interval_rises (receive_event message));
      })

  module _ (cut : Intervals) where
    -- the message that is sent at a place begins a state up to the cut
    pub record LeadsByMessage (place : ℕ) : Type 0 where
      pub received : ℕ
      pub message : AreSendAndReceive order place received
      pub up_to : IsUpTo (computation_of n order) cut (state_there n order message.to (received + 1))

    leads_by : {p place : ℕ} → IsEventAt order p place → (u : State)
        → DirectlyPrecedes (computation_of n order) (state_there n order p place) u
        → IsUpTo (computation_of n order) cut u
        → IsUpTo (computation_of n order) cut (state_there n order p (place + 1)) ⊎ LeadsByMessage place
    leads_by {p} {place} event u (Next process interval exists) up_to = inl (subst (IsUpTo (computation_of n order) cut)
        (same_state u (state_there n order p (place + 1)) (sym process)
        (sym interval ∙ sym (interval_rises event))) up_to)
    leads_by {p} {place} event u (Message m) up_to =
        let delivery = delivery_of n fit p m.to u.process m.sent m.received m.send m.receive in
        let message : AreSendAndReceive order m.sent m.received = record {
          from = p;
          to = u.process;
          send = delivery.send;
          receive = delivery.receive;
          same_number = sym delivery.same_rank;
        } in
        let begins = interval_rises (receive_event message) in
        let same : m.sent ≡ place = count_before-place (is_event_of p) order m.sent place _ event.task delivery.send
        event.at (and_from _ _ (eq-eqb p p refl) refl) event.own
        (sym (interval_at_is n order p m.sent) ∙ m.from_state ∙ interval_at_is n order p place) in
        inr (subst LeadsByMessage same (record {
          received = m.received;
          message = message;
          up_to = subst (IsUpTo (computation_of n order) cut)
              (same_state u (state_there n order u.process (m.received + 1)) refl (sym m.to_state ∙ sym begins)) up_to;
        }))

    -- an event in the past of the cut leads up to it, by its process or by a message
    pub leads : {p place : ℕ} → IsEventAt order p place
        → IsPast (computation_of n order) cut (state_there n order p place)
        → IsUpTo (computation_of n order) cut (state_there n order p (place + 1)) ⊎ LeadsByMessage place
    leads {p} {place} event past =
        let first = past_first (computation_of n order) cut (state_there n order p place) past in
        leads_by event first.0 first.1 first.2

    -- the past of a cut has all that goes before what is in it
    pub past_own : (p i j : ℕ) → j < i → IsPast (computation_of n order) cut (state_there n order p i)
        → IsPast (computation_of n order) cut (state_there n order p j)
    past_own p i j less past = record {
      later = past.later;
      member = past.member;
      before = earlier_before (computation_of n order) p _ _
          (count_before-mono (is_communication_of p) (computation_of n order) j i (omega arith)) past.before;
    }

    pub past_message : (sent received : ℕ) (message : AreSendAndReceive order sent received)
        → IsPast (computation_of n order) cut (state_there n order message.to received)
        → IsPast (computation_of n order) cut (state_there n order message.from sent)
    past_message sent received message past =
        elim (leads (receive_event message) past) [
          | inl up_to ↦ past_from (computation_of n order) cut _ _ (message_step message) up_to
          | inr by ↦ absurd (send_or_receive received by.message.from by.message.to message.to message.from
              by.message.send message.receive)
        ]
