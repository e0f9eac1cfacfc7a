-- Which tasks can be done, by the tasks that were done in a fit order.
use Rattle.wcp_order.proofs.Words.{count_before-mono, ◌≡◌, ℕ, zero, suc, ◌+◌, ◌<◌, ◌*◌, cond, List, length, take}
use Rattle.wcp_order.proofs.Words.{filter, count_by, Some, sym, ◌∙◌, ap, arith, inl, inr, eqb-true, slice_get}
use Rattle.wcp_order.proofs.Words.{slice_index, All, cases_lt, take_all, length-filter, sum_by-take-le, Action, Task}
use Rattle.wcp_order.proofs.Words.{is_task_of, sends, receives, IsFitOrder, IsWithin, sends_yes, receives_yes}
use Rattle.wcp_order.proofs.Words.{count_before-yes, element_after, slice_get-filter, AreSendAndReceive, IsEarlier}
use Rattle.wcp_order.proofs.Words.{CanBeDone, IsProgress, IsBlocked, IsReady}
use Rattle.wcp_model.specs.declared.workload.Action.TheVariants as action
use Rattle.wcp_order.specs.Stuck.CanBeDone.{Observing, Sending, Receiving}
use Rattle.wcp_order.proofs.Counting.{sent_before}
use Rattle.wcp_order.proofs.Prefixes.{Begins, begins_take, no_more_than_all, among_by_stricter, among_by_test}
use Rattle.wcp_order.proofs.Prefixes.{as_many_pass}
use Rattle.wcp_order.proofs.Tasks.{at_place, count_by-take_one, is_task_of_itself, sends_by, receives_by, sends_is}

-- how many tasks of the process stand before a place
abbrev pub rank : List Task → ℕ → ℕ → ℕ
rank tasks p place = count_by (is_task_of p) (take place tasks)

-- a place before which fewer tasks of a process stand is an earlier one
earlier_place : (tasks : List Task) (p i j : ℕ) → rank tasks p j < rank tasks p i → j < i
earlier_place tasks p i j fewer = grind (arith, count_before-mono)

module _ (n : ℕ) (tasks order : List Task) (within : All (IsWithin n) tasks) (fit : IsFitOrder order order)
    (begins : (p : ℕ) → p < n → Begins (is_task_of p) order tasks) where
  -- the task was done among the first `bound` ones of the order
  abbrev CanBelow : ℕ → Type 0
  CanBelow bound = (i p : ℕ) (act : Action) → slice_get tasks i ≡ Some (record { p = p; action = act })
      → rank tasks p i < rank order p bound → CanBeDone tasks i

  earlier_can : (bound : ℕ) → CanBelow bound → (i p : ℕ) → rank tasks p i < rank order p (suc bound)
      → (j : ℕ) → IsEarlier tasks p j i → CanBeDone tasks j
  earlier_can bound can i p more j earlier =
      let passes = is_task_of_itself (record { p = p; action = earlier.act }) in
      let before = count_before-yes (is_task_of p) tasks j _ earlier.same_process passes in
      let behind = count_before-mono (is_task_of p) tasks (j + 1) i (omega (arith, earlier.before)) in
      can j p earlier.act earlier.same_process
      (omega (arith, more, before, behind, count_by-take_one (is_task_of p) order bound))

  received_can : (bound : ℕ) → CanBelow bound → (i p from : ℕ)
      → slice_get tasks i ≡ Some (record { p = p; action = action.Recv from })
      → rank tasks p i < rank order p (suc bound) → CanBeDone tasks i
  received_can bound can i p from at more =
      let here = at_place (IsWithin n) tasks i _ within at in
      let front = begins_take (is_task_of from) tasks order bound (begins from here.1.0) in
      let early : List Task = take bound order in
      let late : List Task = take (suc bound) order in
      let number : ℕ = count_by (receives from p) (take i tasks) in
      let received = among_by_stricter (is_task_of p) (receives from p) (receives_by from p) tasks late
      (begins_take (is_task_of p) tasks order (suc bound) (begins p here.0)) i _ at (receives_yes from p) more in
      let is_sent = sent_before order fit bound from p in
      let number_sent : number < count_by (sends from p) early = omega (arith, received, is_sent) in
      let at_most = no_more_than_all (is_task_of from) (sends from p) (sends_by from p) tasks early front in
      let (task, sent) = element_after (sends from p) tasks number (omega (arith, number_sent, at_most)) in
      let among = among_by_test (is_task_of from) (sends from p) (sends_by from p) tasks early front sent.place
      (omega (arith, number_sent, sent.behind)) in
      let send = sent.found ∙ ap Some (sends_is from p task sent.passes) in
      Receiving i sent.place (record { from = from; to = p; send = send; receive = at; same_number = sym sent.behind })
      (can sent.place from (action.Send p) send among) (earlier_can bound can i p more)

  can_below : (bound : ℕ) → CanBelow bound
  can_below zero i p act at more = absurd (omega (arith, more))
  can_below (suc bound) i p (action.Observe holds) at more =
      Observing i p holds at (earlier_can bound (can_below bound) i p more)
  can_below (suc bound) i p (action.Send to) at more = Sending i p to at (earlier_can bound (can_below bound) i p more)
  can_below (suc bound) i p (action.Recv from) at more = received_can bound (can_below bound) i p from at more

  -- a task can be done if fewer tasks of its process stand before it than are done
  pub can_if_done : (i : ℕ) (task : Task) → slice_get tasks i ≡ Some task
      → rank tasks task.p i < count_by (is_task_of task.p) order → CanBeDone tasks i
  can_if_done i task at more =
      can_below (length order) i task.p task.action at (rw (take_all (length order) order (omega arith)) more)

-- where each process is blocked, what can be done is done
module _ (n : ℕ) (tasks order : List Task) (done in_transit : List ℕ) (within : All (IsWithin n) tasks)
    (progress : IsProgress n (λ p. filter (is_task_of p) tasks) order done in_transit)
    (blocked : (p : ℕ) → p < n → IsBlocked n (filter (is_task_of p) tasks) done in_transit p) where
  abbrev IsAmongDone : ℕ → Type 0
  IsAmongDone i = (task : Task) → slice_get tasks i ≡ Some task
      → rank tasks task.p i < count_by (is_task_of task.p) order

  -- the first task of a process that isn't done is not ready
  no_front : (i p : ℕ) (act : Action) → slice_get tasks i ≡ Some (record { p = p; action = act })
      → IsReady n in_transit p act
      → rank tasks p i ≡ count_by (is_task_of p) order → ⊥
  no_front i p act at ready here =
      let task : Task = record { p = p; action = act } in
      let below : p < n = (at_place (IsWithin n) tasks i task within at).0 in
      let front : slice_index done p ≡ length (filter (is_task_of p) (take i tasks)) =
      omega (arith, progress.counts p below, here, length-filter (is_task_of p) (take i tasks)) in
      blocked p below task (rw front (slice_get-filter (is_task_of p) tasks i task at (is_task_of_itself task))) ready

  -- a task that isn't the first of its process that isn't done is done if all earlier tasks of the process are
  unless_prefix : (i p : ℕ) → ((j : ℕ) → IsEarlier tasks p j i → IsAmongDone j)
      → (rank tasks p i ≡ count_by (is_task_of p) order → ⊥) → rank tasks p i < count_by (is_task_of p) order
  unless_prefix i p earlier elsewhere = elim (cases_lt (count_by (is_task_of p) order) (rank tasks p i)) [
    | inr most ↦ omega (arith, most, elsewhere)
    | inl more ↦
        let at_most = sum_by-take-le (λ task. cond (is_task_of p task) 1 0) tasks i in
        let some : count_by (is_task_of p) order < count_by (is_task_of p) tasks = omega (arith, more, at_most) in
        let (other, before) = element_after (is_task_of p) tasks (count_by (is_task_of p) order) some in
        let j : ℕ = before.place in
        let found : slice_get tasks j ≡ Some (record { p = p; action = other.action }) =
        grind (arith, before.found, eqb-true other.p p before.passes) in
        let j_below : j < i = earlier_place tasks p i j (omega (arith, more, before.behind)) in
        let is_done = earlier j (record { before = j_below; act = other.action; same_process = found }) _ found in
        absurd (omega (arith, is_done, before.behind))
  ]

  -- the first receive that isn't done is ready if its send is done
  received : (i sent : ℕ) (message : AreSendAndReceive tasks sent i) → IsAmongDone sent
      → rank tasks message.to i ≡ count_by (is_task_of message.to) order
      → 0 < slice_index in_transit (message.from * n + message.to)
  received i sent message sent_done here =
      let from : ℕ = message.from in
      let to : ℕ = message.to in
      let limits = at_place (IsWithin n) tasks i _ within message.receive in
      let sends_before = among_by_stricter (is_task_of from) (sends from to) (sends_by from to) tasks order
      (progress.first from limits.1.0) sent _ message.send (sends_yes from to) (sent_done _ message.send) in
      let receives_before = as_many_pass (is_task_of to) (receives from to) (receives_by from to) tasks order
      (progress.first to limits.0) i here in
      let counted = progress.is_done.counted from to limits.1.0 limits.0 in
      omega (arith, counted, message.same_number, sends_before, receives_before)

  pub done_if_can : {i : ℕ} → CanBeDone tasks i → IsAmongDone i
  done_if_can (Observing i p holds at earlier) task there =
      grind (arith, at, there, unless_prefix i p (λ j before. done_if_can (earlier j before)) (no_front i p _ at tt))
  done_if_can (Sending i p to at earlier) task there =
      grind (arith, at, there, unless_prefix i p (λ j before. done_if_can (earlier j before)) (no_front i p _ at tt))
  done_if_can (Receiving i sent message sent_can earlier) task there =
      let ready = received i sent message (done_if_can sent_can) in
      let elsewhere = λ (here : rank tasks message.to i ≡ count_by (is_task_of message.to) order). no_front i message.to
      _ message.receive (ready here) here in
      grind (
        arith,
        message.receive,
        there,
        unless_prefix i message.to (λ j before. done_if_can (earlier j before)) elsewhere,
      )
