use Rattle.wcp_model.proofs.Words.{NumberSet, Flag, common_steps, ◌≡◌, ◌==◌, ℕ, zero, suc, ◌+◌, ◌-◌, ◌<◌, ◌≤◌, ◌&&◌}
use Rattle.wcp_model.proofs.Words.{Bool, false, cond, Some, List, [], ◌∷◌, ◌++◌, length, count_by, filter, map}
use Rattle.wcp_model.proofs.Words.{slice_get, slice_index, take, drop, All, refl, sym, ap, ap₂, subst, subst₂, inl, inr}
use Rattle.wcp_model.proofs.Words.{eq-eqb, append-nil, ◌∙◌, arith, range_with_len, and_parts, cases_eq, cases_lt}
use Rattle.wcp_model.proofs.Words.{ne_eqb, take_all, take_more, take-take, take-map, take-append-drop, length-map}
use Rattle.wcp_model.proofs.Words.{length-take, take_at, length-filter, count_by-le-length, sum_by-take-le}
use Rattle.wcp_model.proofs.Words.{slice_get-map, slice_get_within, get_or_from_slice_get, Step, Action, Task}
use Rattle.wcp_model.proofs.Words.{Computation, is_send, communications, interval_at, IsStateClock, Call, Observed}
use Rattle.wcp_model.proofs.Words.{Sent, Received, Closed, is_step_of, setup, state_of_log, IsStampOf, IsCallOf}
use Rattle.wcp_model.proofs.Words.{AreCallsOf, IsLogOf, IsAccepted, actions_of, IsCallFor, FollowsActions, stamps_got}
use Rattle.wcp_model.proofs.Words.{AreLogsOfTasks, TaskLogLaw, is_task_of, is_send_to, is_receive_from, sends, receives}
use Rattle.wcp_model.proofs.Words.{message_number, step_of, steps_from, computation_of, IsWithin, IsFitOrder, gets}
use Rattle.wcp_model.specs.declared.step.Step.TheVariants as step
use Rattle.wcp_model.specs.declared.workload.Action.TheVariants as action
use Rattle.wcp_model.proofs.AcceptedOrder.{IsFitOrder-itself, All-fit_order, order_accepted}
use Rattle.wcp_model.proofs.EventPlaces.{event_of_send, event_below}
use Rattle.wcp_model.proofs.Reached.{interval_at-event}
use Rattle.wcp_model.proofs.Growth.{get_front, get_behind}
use Rattle.wcp_model.proofs.MessagesOfOrder.{sends_yes, message_number_is, send_of_receive}
use Rattle.wcp_model.proofs.Places.{count_before-no, count_before-yes}
use Rattle.wcp_model.proofs.Predecessors.{local_state, before_from_state}
use Rattle.wcp_model.proofs.RunningClock.{clock_counts}
use Rattle.wcp_model.proofs.RunningLog.{log_law_holds}
use Rattle.wcp_model.proofs.GrowingLogs.{log_grows, stamp_grows, accepted_prefix}
use Rattle.wcp_model.proofs.SamePlace.{slice_get-take, slice_get-filter, filter_prefix, element_within, same_count}
use Rattle.wcp_model.proofs.StepsOfOrder.{length-steps_from, step_at, message_at_is}
use Rattle.wcp_model.proofs.TaskLogs.{same_length, call_for, stamp_sent_at, stamp_got_at}

-- the first steps of the computation of an order
abbrev front : ℕ → List Task → ℕ → Computation
front n order place = take place (computation_of n order)

-- how many tasks of a process stand before a place
abbrev done : List Task → ℕ → ℕ → ℕ
done order p place = count_by (is_task_of p) (take place order)

-- one more element of a prefix
take_next : {X : Type 0} (xs : List X) (i : ℕ) (x : X) → slice_get xs i ≡ Some x → take (i + 1) xs ≡ take i xs ++ x ∷ []
take_next xs i x at = take_more xs i x (slice_get_within xs i x at)
    ∙ ap (λ y. take i xs ++ y ∷ []) (get_or_from_slice_get xs i x x at)

-- the action of a task stands behind those of its process before it
action_at : (order : List Task) (place : ℕ) (task : Task) → slice_get order place ≡ Some task
    → slice_get (actions_of task.p order) (done order task.p place) ≡ Some task.action
action_at order place task at =
    grind (
      arith,
      eq-eqb task.p task.p refl,
      length-filter (is_task_of task.p) (take place order),
      slice_get-filter (is_task_of task.p) order place task at,
      slice_get-map (λ (t : Task). t.action) (filter (is_task_of task.p) order) (done order task.p place),
    )

-- as many actions of a process pass as tasks of it do
pub count_actions : (test : Action → Bool) (p : ℕ) (tasks : List Task)
    → count_by test (actions_of p tasks) ≡ count_by (λ task. is_task_of p task && test task.action) tasks
count_actions test p [] = refl
count_actions test p (task ∷ tasks) = grind (arith, common_steps, gets, count_actions test p tasks)

rank_of : (test : Action → Bool) (order : List Task) (p place : ℕ) → count_by test (take (done order p place)
    (actions_of p order)) ≡ count_by (λ task. is_task_of p task && test task.action) (take place order)
rank_of test order p place = ap (count_by test) actions_before ∙ count_actions test p (take place order)
  where
    actions_before : take (done order p place) (actions_of p order) ≡ actions_of p (take place order)
    actions_before = grind (arith, filter_prefix, length-filter, take-map)

-- the stamp of a message knows no event that there isn't
stamp_below : (n : ℕ) (c : Computation) (message q : ℕ) (stamp : List ℕ) → q < n → IsStampOf n c message stamp
    → slice_index stamp q ≤ communications c q
stamp_below n c message q stamp below is =
    let k : ℕ = interval_at c is.from is.sent in
    let exists : k + 1 ≤ communications c is.from =
    omega (arith, event_below c is.from k is.sent (event_of_send c is.from k is.to is.sent is.send refl)) in
    let counted =
    (clock_counts n c (local_state is.from (k + 1)) stamp q exists is.clock below (slice_index stamp q - 1)).1 in
    elim (cases_lt 0 (slice_index stamp q)) [
      | inl some ↦ omega (arith, before_from_state c (local_state q (slice_index stamp q - 1)) (counted (omega arith)))
      | inr none ↦ omega arith
    ]

-- the closes of n processes from a number on
abbrev closes : ℕ → ℕ → Computation
closes from n = map step.Close (range_with_len from n)

-- none of them is of an earlier process
no_close_of : (p from n : ℕ) → p < from → filter (is_step_of p) (closes from n) ≡ []
no_close_of p from zero before = refl
no_close_of p from (suc n) before = rw (ne_eqb from p (λ same. omega arith)) (no_close_of p (from + 1) n (omega arith))

-- and one of each of these
one_close_of : (p from n : ℕ) → from ≤ p → p < from + n → filter (is_step_of p) (closes from n) ≡ step.Close p ∷ []
one_close_of p from zero behind within = absurd (omega arith)
one_close_of p from (suc n) behind within = elim (cases_eq from p) [
  | inl same ↦ rw (eq-eqb from p same, no_close_of p (from + 1) n (omega arith)) (ap (λ q. step.Close q ∷ []) same)
  | inr other ↦ rw (ne_eqb from p other) (one_close_of p (from + 1) n (omega arith) (omega arith))
]

-- logs of the tasks of a fit order
module _ (n : ℕ) (watched : NumberSet) (flag : Flag) (order : List Task) (within : All (IsWithin n) order)
    (fit : IsFitOrder order order) (logs : ℕ → List Call) (are : AreLogsOfTasks n watched flag order logs) where
  -- what a process has logged at a place
  abbrev log_at : ℕ → ℕ → List Call
  log_at p place = take (done order p place) (logs p)

  -- at a place, it is the log of the process in the front of the computation
  abbrev AreLogsAt : ℕ → Type 0
  AreLogsAt place = (p : ℕ) → p < n → IsLogOf n (front n order place) p (log_at p place)

  accepted_at : (place : ℕ) → IsAccepted (front n order place)
  accepted_at place = accepted_prefix (front n order place) (drop place (computation_of n order))
      (subst IsAccepted (sym (take-append-drop place (computation_of n order))) (order_accepted n order fit))

  -- a task has a call in the log of its process, which is then one longer
  module _ (place : ℕ) (task : Task) (at : slice_get order place ≡ Some task) (below : task.p < n) where
    call_at : (call : Call) × (slice_get (logs task.p) (done order task.p place) ≡ Some call)
        × IsCallFor task.action call
    call_at = call_for (actions_of task.p order) (logs task.p) (done order task.p place) task.action
        (are.follows task.p below) (action_at order place task at)

    log_next : log_at task.p (place + 1) ≡ log_at task.p place ++ call_at.0 ∷ []
    log_next = grind (arith, count_before-yes, eq-eqb, take_next)

  -- the stamp of a message carries the clock of its sender's probe after the send
  sent_stamp : (sent p q : ℕ) → p < n → slice_get order sent ≡ Some (record { p = p; action = action.Send q })
      → AreLogsAt (sent + 1) →
      IsStampOf n (front n order (sent + 1)) (message_number order p q (count_by (sends p q) (take sent order)))
      (state_of_log (setup n watched flag p) (log_at p (sent + 1))).clock
  sent_stamp sent p q below at logs_are = record {
    sent = sent;
    from = p;
    to = q;
    send = slice_get-take (sent + 1) (computation_of n order) sent (omega arith) ∙ send;
    number = ap (count_by is_send) before ∙ message_at_is n order sent
        ∙ sym (message_number_is order p q _ sent at refl);
    clock = subst (λ k. IsStateClock n (front n order (sent + 1)) (local_state p k)
        (state_of_log (setup n watched flag p) (log_at p (sent + 1))).clock)
        (interval_at-event (computation_of n order) p sent (step.Send p q) send (eq-eqb p p refl)
        ∙ ap (λ c. communications c p + 1) (sym before))
        (log_law_holds n watched flag (front n order (sent + 1)) p (log_at p (sent + 1)) (accepted_at (sent + 1)) below
        (logs_are p below)).clock;
  }
    where
      send : slice_get (computation_of n order) sent ≡ Some (step.Send p q)
      send = step_at n order sent _ at

      before : take sent (front n order (sent + 1)) ≡ front n order sent
      before = take-take sent (sent + 1) (computation_of n order) (omega arith)

  -- and so does the stamp that its receiver gets
  received_stamp : (received p q : ℕ) (stamp : List ℕ) → p < n → q < n → slice_get order received ≡ Some
      (record { p = q; action = action.Recv p }) → slice_get (logs q) (done order q received) ≡ Some (Received stamp) →
      ((place : ℕ) → place ≤ received → AreLogsAt place) → IsStampOf n (front n order received)
      (message_number order p q (count_by (receives p q) (take received order))) stamp
  received_stamp received p q stamp p_below q_below at took logs_are =
      let (sent, earlier, delivery) = send_of_receive fit p q received at in
      let send : Task = record { p = p; action = action.Send q } in
      let receive : Task = record { p = q; action = action.Recv p } in
      let some : 0 < count_by (sends p q) order =
      omega (
        arith,
        count_before-yes (sends p q) order sent send delivery.send (sends_yes p q),
        sum_by-take-le (λ task. cond (sends p q task) 1 0) order (sent + 1),
      ) in
      let (in_transit, together) = are.in_order p q p_below q_below some in
      let (call, made_call, is) = call_at sent send delivery.send p_below in
      let got = stamp_got_at p (actions_of q order) (logs q) (done order q received) (action.Recv p) (Received stamp)
      (action_at order received receive at) took (eq-eqb p p refl) in
      let same_rank = rank_of (is_receive_from p) order q received ∙ sym delivery.same_rank
      ∙ sym (rank_of (is_send_to q) order p sent) in
      let next = log_next sent send delivery.send p_below in
      let sent_at = stamp_sent_at (setup n watched flag p) q (actions_of p order) (logs p) (done order p sent)
      (action.Send q) call (action_at order sent send delivery.send) made_call (eq-eqb q q refl) in
      let stands = get_front (stamps_got p (actions_of q order) (logs q)) in_transit _ (slice_get_within _ _ _ got) in
      let clock : (state_of_log (setup n watched flag p) (log_at p (sent + 1))).clock ≡ stamp =
      cc (next, sent_at, together, stands, got, same_rank) in
      let number = message_number order p q (count_by (receives p q) (take received order)) in
      let then : IsStampOf n (front n order (sent + 1)) number stamp =
      subst₂ (λ rank. IsStampOf n (front n order (sent + 1)) (message_number order p q rank)) delivery.same_rank
      clock (sent_stamp sent p q p_below delivery.send (logs_are (sent + 1) (omega (arith, earlier)))) in
      let short : take (sent + 1) (front n order received) ≡ front n order (sent + 1) =
      take-take (sent + 1) received (computation_of n order) (omega (arith, earlier)) in
      subst (λ c. IsStampOf n c number stamp) (ap (λ c. c ++ drop (sent + 1) (front n order received)) (sym short)
      ∙ take-append-drop (sent + 1) (front n order received))
      (stamp_grows n (front n order (sent + 1)) (drop (sent + 1) (front n order received)) number stamp then)

  -- so the call of a task is that of its step
  step_call : (place a : ℕ) (act : Action) (call : Call) → a < n → slice_get order place ≡ Some
      (record { p = a; action = act }) → slice_get (logs a) (done order a place) ≡ Some call → IsCallFor act call →
      ((k : ℕ) → k ≤ place → AreLogsAt k) → IsCallOf n (front n order place ++ step_of order
      (take place order) a act ∷ []) (step_of order (take place order) a act) call
  step_call place a (action.Observe holds) (Observed seen) below at made is logs_are = is
  step_call place a (action.Send to) Sent below at made is logs_are = tt
  step_call place a (action.Recv from) (Received stamp) below at made is logs_are =
      let inside : IsWithin n (record { p = a; action = action.Recv from }) =
      subst (IsWithin n) (get_or_from_slice_get order place _ (record { p = a; action = action.Recv from }) at)
      (within place _ (slice_get_within order place _ at)) in
      stamp_grows n (front n order place) (step_of order (take place order) a (action.Recv from) ∷ []) _ stamp
      (received_stamp place from a stamp inside.1.0 below at made logs_are)
  step_call place a act call below at made is logs_are = absurd is

  -- and with the next task each log is that of its process
  logs_next : (place : ℕ) (task : Task) → slice_get order place ≡ Some task → task.p < n
      → ((k : ℕ) → k ≤ place → AreLogsAt k) → AreLogsAt (place + 1)
  logs_next place task at inside logs_are p below =
      let x : Step = step_of order (take place order) task.p task.action in
      let c : Computation = front n order place in
      let (call, made, is) = call_at place task at inside in
      let owner : (q : ℕ) → is_step_of q x ≡ (task.p == q) = λ q. grind arith in
      rw (take_next (computation_of n order) place x (step_at n order place task at)) (elim (cases_eq task.p p) [
        | inl own ↦ rw (← own, log_next place task at inside)
            (log_grows n c (x ∷ []) task.p (log_at task.p place) (call ∷ [])
            (logs_are place (omega arith) task.p inside)
            (rw (owner task.p ∙ eq-eqb task.p task.p refl)
            (step_call place task.p task.action call inside at made is logs_are, tt)))
        | inr other ↦
            let none : (task.p == p) ≡ false = ne_eqb task.p p other in
            let same : log_at p (place + 1) ≡ log_at p place ++ [] = ap (λ k. take k (logs p))
            (count_before-no (is_task_of p) order place task at none) ∙ sym (append-nil (log_at p place)) in
            rw same (log_grows n c (x ∷ []) p (log_at p place) [] (logs_are place (omega arith) p below)
            (rw (owner p ∙ none) tt))
      ])

  logs_until : (bound : ℕ) → bound ≤ length order → (place : ℕ) → place ≤ bound → AreLogsAt place
  logs_until zero inside place le = grind arith
  logs_until (suc bound) inside place le = elim (cases_lt place (bound + 1)) [
    | inl earlier ↦ logs_until bound (omega arith) place (omega arith)
    | inr last ↦
        let (task, at) = element_within order bound (omega arith) in
        let task_within : IsWithin n task =
        rw (get_or_from_slice_get order bound task task at) at (within bound task (omega arith)) in
        let here : bound + 1 ≡ place = omega arith in
        subst AreLogsAt here (logs_next bound task at task_within.0 (logs_until bound (omega arith)))
  ]

  -- at the end they are whole
  whole : (p : ℕ) → p < n → log_at p (length order) ≡ logs p
  whole p below = grind (arith, length-filter, length-map, same_length, take_all)

  -- a probe's own component counts the events of its process
  own_component : (place p : ℕ) → place ≤ length order → p < n → slice_index
      (state_of_log (setup n watched flag p) (log_at p place)).clock p ≡ communications (front n order place) p
  own_component place p inside below = (log_law_holds n watched flag (front n order place) p (log_at p place)
      (accepted_at place) below (logs_until (length order) (omega arith) place inside p below)).clock.own

  -- so it is at most the number of tasks
  pub few_events : (p : ℕ) → p < n → slice_index (state_of_log (setup n watched flag p) (logs p)).clock p ≤ length order
  few_events p below = grind (arith, count_by-le-length, length-take, own_component, whole)

  -- and the stamp that a process gets is a clock that is not ahead of its own
  not_ahead : (place p q : ℕ) (stamp : List ℕ) → p < n → q < n → slice_get order place ≡ Some
      (record { p = q; action = action.Recv p }) → slice_get (logs q) (done order q place) ≡ Some (Received stamp) →
      (length stamp ≡ n)
      × (slice_index stamp q ≤ slice_index (state_of_log (setup n watched flag q) (log_at q place)).clock q)
  not_ahead place p q stamp p_below q_below at took =
      search (
        arith,
        received_stamp place p q stamp p_below q_below,
        logs_until,
        own_component,
        slice_get_within,
        stamp_below,
      )

  -- and each process closes
  pub logs_with_close : (p : ℕ) → p < n → IsLogOf n (computation_of n order) p (logs p ++ Closed ∷ [])
  logs_with_close p below =
      let steps = steps_from order [] order in
      let all : front n order (length order) ≡ steps =
      take_at steps (closes 0 n) (length order) (length-steps_from order [] order) in
      log_grows n steps (closes 0 n) p (logs p) (Closed ∷ [])
      (subst₂ (λ c log. IsLogOf n c p log) all (whole p below)
      (logs_until (length order) (omega arith) (length order) (omega arith) p below))
      (subst (λ own. AreCallsOf n (steps ++ closes 0 n) own (Closed ∷ []))
      (sym (one_close_of p 0 n (omega arith) (omega arith))) (tt, tt))

-- with one more receive, its stamp is a clock that is not ahead of the probe that gets it
module _ (n : ℕ) (watched : NumberSet) (flag : Flag) (tasks : List Task) (p q : ℕ) (act : Action)
    (acts : act ≡ action.Recv p) (log : List Call) (stamp : List ℕ) (logs : ℕ → List Call) where
  abbrev receive : Task
  receive = record { p = q; action = act }

  abbrev longer : List Task
  longer = tasks ++ receive ∷ []

  pub got_not_ahead : p < n → q < n → All (IsWithin n) longer → IsFitOrder longer longer → AreLogsOfTasks n watched flag
      longer logs → FollowsActions (actions_of q tasks) log → logs q ≡ log ++ Received stamp ∷ [] →
      (length stamp ≡ n) × (slice_index stamp q ≤ slice_index (state_of_log (setup n watched flag q) log).clock q)
  got_not_ahead p_below q_below within fit are follows own =
      let place : done longer q (length tasks) ≡ length log =
      grind (arith, length-filter, length-map, same_length, take_at) in
      let before : take (done longer q (length tasks)) (logs q) ≡ log = ap₂ take place own
      ∙ take_at log (Received stamp ∷ []) (length log) refl in
      subst (λ calls. (length stamp ≡ n)
      × (slice_index stamp q ≤ slice_index (state_of_log (setup n watched flag q) calls).clock q)) before
      (not_ahead n watched flag longer within fit logs are (length tasks) p q stamp p_below q_below
      (get_behind tasks receive [] ∙ ap (λ a. Some (record { p = q; action = a })) acts)
      (ap₂ slice_get own place ∙ get_behind log (Received stamp) []))

-- logs of tasks are logs of a fit order of them
AreLogsOfTasks-along : (n : ℕ) (watched : NumberSet) (flag : Flag) (tasks order : List Task) (logs : ℕ → List Call)
    → IsFitOrder tasks order → AreLogsOfTasks n watched flag tasks logs → AreLogsOfTasks n watched flag order logs
AreLogsOfTasks-along n watched flag tasks order logs fit are = record {
  follows = λ p below. rw (same p) (are.follows p below);
  in_order = λ p q p_below q_below some.
      let (in_transit, together) = are.in_order p q p_below q_below (omega (
        arith,
        some,
        same_count (is_task_of p) (sends p q) order tasks (λ t h. (and_parts _ _ h).0) (fit.same_tasks p),
      )) in
      (in_transit, rw (same q, same p) together);
}
  where
    same : (p : ℕ) → actions_of p order ≡ actions_of p tasks
    same p = ap (map (λ (t : Task). t.action)) (fit.same_tasks p)

-- the task log law
pub task_log_law_holds : TaskLogLaw
task_log_law_holds n watched flag tasks order logs within fit are =
    logs_with_close n watched flag order (All-fit_order (IsWithin n) tasks order fit within)
    (IsFitOrder-itself tasks order fit) logs (AreLogsOfTasks-along n watched flag tasks order logs fit are)
