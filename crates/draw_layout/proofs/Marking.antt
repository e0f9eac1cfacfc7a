-- One more place is marked.
use Rattle.draw_layout.proofs.Words.{◌≡◌, ◌∙◌, ℕ, ◌+◌, ◌<◌, ◌⊎◌, ◌↔◌, true, false, Bool, List, Some, length, refl, sym}
use Rattle.draw_layout.proofs.Words.{ap, subst, inl, inr, arith, cases_eq, cases_lt, cases_Bool, set, length-set}
use Rattle.draw_layout.proofs.Words.{get_or-set_same, get_or-set_other, slice_get, slice_index, slice_index_or}
use Rattle.draw_layout.proofs.Words.{slice_get_within, count_by, count_before-no, replicate, length-replicate}
use Rattle.draw_layout.proofs.Words.{get_or_past, same_Some, take_all, at_place, Action, Task, IsWithin}
use Rattle.draw_layout.proofs.Words.{AreSendAndReceive, IsEventAt, is_event, is_event_of, IsOfHalf, IsSendOf}
use Rattle.std.proofs.lemmas.Grind.{common_steps}
use Rattle.wcp_model.specs.declared.workload.Action.TheVariants as action
use Rattle.wcp_model.specs.Computation.{interval_at}
use Rattle.wcp_model.specs.Cut.{Intervals}
use Rattle.wcp_model.specs.WorkloadComputation.{computation_of}
use Rattle.wcp_model.proofs.Predecessors.{before_from_state, before_later, local_state}
use Rattle.wcp_model.proofs.StepsOfOrder.{interval_at_is, communications_is}
use Rattle.draw_layout.specs.Halves.{IsPast, IsUpTo, IsCutOrder, AreMarked, HasLaterMember, state_there}
use Rattle.draw_layout.proofs.Laying.{event_from, no_event, same_process, same_send, message_later, send_event}
use Rattle.draw_layout.proofs.Laying.{receive_event}
use Rattle.draw_layout.proofs.Past.{past_from, next_step, interval_rises, message_step, leads, member_exists}

-- some marks, of which none is set
no_marks : (k i : ℕ) → IsOfHalf (replicate k false) true i → ⊥
no_marks k i own = grind (arith, common_steps, cases_lt i k, get_or_past (replicate k false) i false)

-- one more mark
mark_kept : (halves : List Bool) (at i : ℕ) → at < length halves → IsOfHalf halves true i
    → IsOfHalf (set halves at true) true i
mark_kept halves at i inside own = grind (arith, common_steps, cases_eq i at)

mark_other : (halves : List Bool) (at i : ℕ) → (i ≡ at → ⊥) → IsOfHalf (set halves at true) true i
    → IsOfHalf halves true i
mark_other halves at i other own = grind (arith, common_steps)

-- at the end nothing is to be marked
pub none_marked : (n : ℕ) (order : List Task) (cut : Intervals)
    → AreMarked n order cut (length order) (replicate (length order) false) (replicate 16 false)
none_marked n order cut = record {
  tasks = length-replicate (length order) false;
  processes = length-replicate 16 false;
  states = λ p below. (
    λ own. absurd (no_marks 16 p own),
    λ past. absurd (omega (
      arith,
      before_from_state (computation_of n order) (state_there n order p (length order)) past.before,
      interval_at_is n order p (length order),
      communications_is n order p,
      ap (λ tasks. count_by (is_event_of p) tasks) (take_all (length order) order (omega arith)),
    )),
  );
  only = λ p i event own. absurd (no_marks (length order) i own);
  events = λ p i event le past. absurd (omega (arith, slice_get_within order i event.task event.at));
  messages = λ sent received message le up_to.
      absurd (omega (arith, slice_get_within order received _ message.receive));
}

module _ {n : ℕ} {order : List Task} {intervals sends : List ℕ} {cut : Intervals}
    (is : IsCutOrder n order intervals sends cut) (place : ℕ) {task : Task} (at : slice_get order place ≡ Some task)
    {halves later : List Bool} (marked : AreMarked n order cut (place + 1) halves later) where
  abbrev Past : ℕ → ℕ → Type 0
  Past p i = IsPast (computation_of n order) cut (state_there n order p i)

  abbrev UpTo : ℕ → ℕ → Type 0
  UpTo p i = IsUpTo (computation_of n order) cut (state_there n order p i)

  -- a process without an event at the place stays in its state
  stays : (q : ℕ) → (IsEventAt order q place → ⊥)
      → interval_at (computation_of n order) q (place + 1) ≡ interval_at (computation_of n order) q place
  stays q none = elim (cases_Bool (is_event_of q task)) [
    | inl own ↦ absurd (none (record { task = task; at = at; own = own }))
    | inr other ↦ interval_at_is n order q (place + 1) ∙ count_before-no (is_event_of q) order place task at other
        ∙ sym (interval_at_is n order q place)
  ]

  later_stays : (q : ℕ) → q < n → (IsEventAt order q place → ⊥) → IsOfHalf later true q ↔ Past q place
  later_stays q below none = rw (stays q none) at (marked.states q below)

  -- no event stands at the place
  pub marked_past : is_event task.action ≡ false → AreMarked n order cut place halves later
  marked_past quiet = record {
    tasks = marked.tasks;
    processes = marked.processes;
    states = λ q below. later_stays q below (no_event at quiet);
    only = marked.only;
    events = λ q i event le past. elim (cases_eq i place) [
      | inl here ↦ absurd (no_event at quiet (subst (IsEventAt order q) here event))
      | inr other ↦ marked.events q i event (omega arith) past
    ];
    messages = λ from received message le up_to. elim (cases_eq received place) [
      | inl here ↦ absurd (no_event at quiet (subst (IsEventAt order message.to) here (receive_event message)))
      | inr other ↦ marked.messages from received message (omega arith) up_to
    ];
  }

  module _ (one : is_event task.action ≡ true) where
    event : IsEventAt order task.p place
    event = event_from at one

    within : task.p < n
    within = (at_place (IsWithin n) order place task is.within at).0

    rises : interval_at (computation_of n order) task.p (place + 1) ≡ slice_index intervals place + 1
    rises = interval_rises n order is.fit event ∙ ap (λ k. k + 1) (sym (is.numbered.each place task at))

    -- `later`, or the member of the process, says that the event begins a state up to the cut
    abbrev Says : Type 0
    Says = IsOfHalf later true task.p ⊎ HasLaterMember cut task.p (slice_index intervals place)

    says_so : Says → UpTo task.p (place + 1)
    says_so (inl own) = inr ((marked.states task.p within).0 own)
    says_so (inr (m, named, less)) = elim (cases_eq (interval_at (computation_of n order) task.p (place + 1)) m) [
      | inl same ↦ inl (rw same named)
      | inr other ↦ inr (record {
        later = local_state task.p m;
        member = named;
        before = before_later (computation_of n order) task.p _ m (omega (arith, rises, less, other))
            (member_exists n is.satisfying.0 (computation_of n order) cut is.satisfying.1 (local_state task.p m) named);
      })
    ]

    says_if : UpTo task.p (place + 1) → Says
    says_if (inl named) = inr (interval_at (computation_of n order) task.p (place + 1), named, omega (arith, rises))
    says_if (inr past) = inl ((marked.states task.p within).1 past)

    -- then it is in the past of the cut, and so is the send of its message
    past_here : (q : ℕ) → IsEventAt order q place → UpTo task.p (place + 1) → Past q place
    past_here q at_q begins = rw (same_process at_q event)
        (past_from (computation_of n order) cut _ _ (next_step n order is.fit event) begins)

    past_sent : (act : Action) (sent q : ℕ) → IsSendOf order place act sent → IsEventAt order q sent
        → UpTo task.p (place + 1) → Past q sent
    past_sent (action.Observe holds) sent q same at_q begins = rw same (past_here q (rw same at at_q) begins)
    past_sent (action.Send to) sent q same at_q begins = rw same (past_here q (rw same at at_q) begins)
    past_sent (action.Recv from) sent q message at_q begins =
        let own = same_process event (receive_event message) in
        rw (same_process at_q (send_event message))
        (past_from (computation_of n order) cut _ _ (message_step n order is.fit message) (rw own at begins))

    -- marks that say so of the event and of the send of its message
    record MarksHere (after : List Bool) : Type 0 where
      tasks : length after ≡ length halves
      kept : (i : ℕ) → IsOfHalf halves true i → IsOfHalf after true i
      only : (i : ℕ) → IsOfHalf after true i
          → IsOfHalf halves true i ⊎ (((i ≡ place) ⊎ (i ≡ slice_index sends place)) × UpTo task.p (place + 1))
      here : UpTo task.p (place + 1) → IsOfHalf after true place × IsOfHalf after true (slice_index sends place)

    module _ (after : List Bool) (marks : MarksHere after) where
      past_after : (q i : ℕ) → IsEventAt order q i → IsOfHalf after true i → Past q i
      past_after q i at_i own = elim (marks.only i own) [
        | inl before ↦ marked.only q i at_i before
        | inr (inl here, begins) ↦ rw here (past_here q (rw here at at_i) begins)
        | inr (inr there, begins) ↦ past_sent task.action i q (rw there (is.sends.each place task at)) at_i begins
      ]

      marked_here : Past task.p place → IsOfHalf after true place
      marked_here past = elim (leads n order is.fit cut event past) [
        | inl begins ↦ (marks.here begins).0
        | inr by ↦ marks.kept place (marked.messages place by.received by.message
            (omega (arith, message_later is.fit by.message)) by.up_to)
      ]

      marked_message : (from received : ℕ) (message : AreSendAndReceive order from received) → received ≡ place
          → UpTo message.to (received + 1) → IsOfHalf after true from
      marked_message from received message here up_to =
          let own = same_process (subst (IsEventAt order message.to) here (receive_event message)) event in
          let acts = same_Some _ _ (sym at ∙ sym (ap (slice_get order) here) ∙ message.receive) in
          let same = same_send (subst (AreSendAndReceive order from) here message)
          (subst (λ (t : Task). IsSendOf order place t.action (slice_index sends place)) acts
          (is.sends.each place task at)) in
          rw same (marks.here (rw (own, here) at up_to)).1

      marked_event : AreMarked n order cut place after (set later task.p (slice_index_or after place false))
      marked_event = record {
        tasks = marks.tasks ∙ marked.tasks;
        processes = length-set later task.p _ ∙ marked.processes;
        states = λ q below. elim (cases_eq q task.p) [
          | inl same ↦ rw (
            same,
            get_or-set_same later task.p (slice_index_or after place false) false
                (omega (arith, within, is.few, marked.processes)),
          ) (past_after task.p place event, marked_here)
          | inr apart ↦ rw (get_or-set_other later task.p q (slice_index_or after place false) false apart)
              (later_stays q below (λ other. apart (same_process other event)))
        ];
        only = past_after;
        events = λ q i at_i le past. elim (cases_eq i place) [
          | inl here ↦
              let own = same_process (rw here at at_i) event in
              rw here (marked_here (rw (here, own) at past))
          | inr other ↦ marks.kept i (marked.events q i at_i (omega arith) past)
        ];
        messages = λ from received message le up_to. elim (cases_eq received place) [
          | inl here ↦ marked_message from received message here up_to
          | inr other ↦ marks.kept from (marked.messages from received message (omega arith) up_to)
        ];
      }

    pub marked_said : Says
        → AreMarked n order cut place (set (set halves place true) (slice_index sends place) true) (set later task.p
        (slice_index_or (set (set halves place true) (slice_index sends place) true) place false))
    marked_said says =
        let once : List Bool = set halves place true in
        let first : place < length halves = omega (arith, marked.tasks, slice_get_within order place task at) in
        let second : slice_index sends place < length once = omega (
          arith,
          marked.tasks,
          is.sends.inside place (slice_get_within order place task at),
          length-set halves place true,
        ) in
        marked_event _ (record {
          tasks = length-set once (slice_index sends place) true ∙ length-set halves place true;
          kept = λ i own. mark_kept once _ i second (mark_kept halves place i first own);
          only = λ i own. elim (cases_eq i place) [
            | inl here ↦ inr (inl here, says_so says)
            | inr other ↦ elim (cases_eq i (slice_index sends place)) [
              | inl there ↦ inr (inr there, says_so says)
              | inr apart ↦ inl (mark_other halves place i other (mark_other once _ i apart own))
            ]
          ];
          here = λ begins. (
            mark_kept once _ place second (get_or-set_same halves place true false first),
            get_or-set_same once _ true false second,
          );
        })

    pub marked_unsaid : (Says → ⊥) → AreMarked n order cut place halves
        (set later task.p (slice_index_or halves place false))
    marked_unsaid none = marked_event _ (record {
      tasks = refl;
      kept = λ i own. own;
      only = λ i own. inl own;
      here = λ begins. absurd (none (says_if begins));
    })
