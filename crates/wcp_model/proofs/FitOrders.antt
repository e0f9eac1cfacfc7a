use Rattle.wcp_model.proofs.Words.{◌≡◌, ℕ, ◌+◌, Bool, true, List, take, filter, count_by, slice_get, Some, refl, sym}
use Rattle.wcp_model.proofs.Words.{ap, ◌∙◌, arith, and_parts, eq-eqb, State, Task, communications, interval_at}
use Rattle.wcp_model.proofs.Words.{IsTrueState, IsMessage, DirectlyPrecedes, HappenedBefore, is_task_of, sends}
use Rattle.wcp_model.proofs.Words.{receives, computation_of, IsFitOrder, FitOrderLaw}
use Rattle.wcp_model.specs.declared.workload.Action.TheVariants as action
use Rattle.wcp_model.specs.Order.DirectlyPrecedes.{Next, Message}
use Rattle.wcp_model.specs.Order.HappenedBefore.{Direct, Chain}
use Rattle.wcp_model.proofs.SamePlace.{SamePlace, same_place, same_count}
use Rattle.wcp_model.proofs.StepsOfOrder.{communicates, step_at, observe_task, interval_at_is, communications_is}
use Rattle.wcp_model.proofs.MessagesOfOrder.{IsDelivery, delivery_later, delivery_step, delivery_of}

-- in both orders each process has the same tasks in the same order
abbrev SameTasks : List Task → List Task → Type 0
SameTasks one other = (p : ℕ) → filter (is_task_of p) one ≡ filter (is_task_of p) other

-- two fit orders of one workload have the same tasks of each process
same_tasks : {tasks one other : List Task} → IsFitOrder tasks one → IsFitOrder tasks other → SameTasks one other
same_tasks fit_one fit_other p = fit_one.same_tasks p ∙ sym (fit_other.same_tasks p)

-- a task of a process is found in the other order too
task_place : (one other : List Task) → SameTasks one other → (place : ℕ) (task : Task) → slice_get one place ≡ Some task
    → SamePlace (is_task_of task.p) one other place task
task_place one other same place task found =
    same_place (is_task_of task.p) one other place task (same task.p) found (eq-eqb task.p task.p refl)

-- what counts only tasks of one process counts the same before both places
count_before : {one other : List Task} {place : ℕ} {task : Task} (there : SamePlace
    (is_task_of task.p) one other place task) (Q : Task → Bool) → ((t : Task) → Q t ≡ true → is_task_of task.p t ≡ true)
    → count_by Q (take there.other other) ≡ count_by Q (take place one)
count_before {one} {other} {place} {task} there Q implies =
    same_count (is_task_of task.p) Q (take there.other other) (take place one) implies there.front

-- the process is in the same interval at both places
interval_there : (n : ℕ) {one other : List Task} {place : ℕ} {task : Task}
    (there : SamePlace (is_task_of task.p) one other place task)
    → interval_at (computation_of n other) task.p there.other ≡ interval_at (computation_of n one) task.p place
interval_there n {one} {other} {place} {task} there =
    interval_at_is n other task.p there.other
    ∙ count_before there (communicates task.p) (λ t h. (and_parts _ _ h).0)
    ∙ sym (interval_at_is n one task.p place)

-- the states of both computations are the same
same_states : (n : ℕ) (one other : List Task) → SameTasks one other → (p : ℕ)
    → communications (computation_of n one) p ≡ communications (computation_of n other) p
same_states n one other same p =
    communications_is n one p
    ∙ same_count (is_task_of p) (communicates p) one other (λ t h. (and_parts _ _ h).0) (same p)
    ∙ sym (communications_is n other p)

-- a state that is true in one computation is true in the other
true_there : (n : ℕ) (one other : List Task) → SameTasks one other → (s : State) → IsTrueState (computation_of n one) s
    → IsTrueState (computation_of n other) s
true_there n one other same s held =
    let task : Task = record { p = s.process; action = action.Observe true } in
    let there =
    task_place one other same held.place task (observe_task n one held.place s.process true held.observed) in
    record {
      place = there.other;
      observed = step_at n other there.other task there.found;
      within = interval_there n there ∙ held.within;
    }

-- a message of one computation has one between the same states in the other
message_there : (n : ℕ) {tasks one other : List Task} → IsFitOrder tasks one → IsFitOrder tasks other → (s t : State)
    → IsMessage (computation_of n one) s t → IsMessage (computation_of n other) s t
message_there n {tasks} {one} {other} fit_one fit_other s t m =
    let same = same_tasks fit_one fit_other in
    let here = delivery_of n fit_one s.process m.to t.process m.sent m.received m.send m.receive in
    let sender = task_place one other same m.sent _ here.send in
    let receiver = task_place one other same m.received _ here.receive in
    let there : IsDelivery other s.process t.process sender.other receiver.other = record {
      send = sender.found;
      receive = receiver.found;
      same_rank = count_before sender (sends s.process t.process) (λ task h. (and_parts _ _ h).0) ∙ here.same_rank
          ∙ sym (count_before receiver (receives s.process t.process) (λ task h. (and_parts _ _ h).0));
    } in
    record {
      sent = sender.other;
      received = receiver.other;
      to = t.process;
      later = delivery_later fit_other there;
      send = step_at n other sender.other _ there.send;
      receive = delivery_step n there;
      from_state = interval_there n sender ∙ m.from_state;
      to_state = ap (λ k. k + 1) (interval_there n receiver) ∙ m.to_state;
    }

-- what directly precedes in one computation does so in the other
precedes_there : (n : ℕ) {tasks one other : List Task} → IsFitOrder tasks one → IsFitOrder tasks other → {s t : State}
    → DirectlyPrecedes (computation_of n one) s t → DirectlyPrecedes (computation_of n other) s t
precedes_there n fit_one fit_other {s} {t} (Next process interval state) =
    Next process interval (omega (arith, state, same_states n _ _ (same_tasks fit_one fit_other) t.process))
precedes_there n fit_one fit_other {s} {t} (Message m) = Message (message_there n fit_one fit_other s t m)

-- what happened before in one computation did so in the other
happened_there : (n : ℕ) {tasks one other : List Task} → IsFitOrder tasks one → IsFitOrder tasks other → {s t : State}
    → HappenedBefore (computation_of n one) s t → HappenedBefore (computation_of n other) s t
happened_there n fit_one fit_other (Direct d) = Direct (precedes_there n fit_one fit_other d)
happened_there n fit_one fit_other (Chain h d) =
    Chain (happened_there n fit_one fit_other h) (precedes_there n fit_one fit_other d)

-- all fit orders of a workload give computations with the same states, order and truths
pub fit_orders_alike : FitOrderLaw
fit_orders_alike n tasks one other fit_one fit_other =
    search (happened_there, same_states, same_tasks, true_there, arith)
