use Rattle.wcp_model.proofs.Words.{common_steps, ◌≡◌, ℕ, zero, suc, ◌+◌, ◌-◌, get_or, ◌<◌, ◌≤◌, ◌&&◌, Bool, true, false}
use Rattle.wcp_model.proofs.Words.{List, [], ◌∷◌, ◌++◌, length, map, take, count_by, slice_get, Some, refl, sym, ap}
use Rattle.wcp_model.proofs.Words.{◌∙◌, inl, inr, ◌⊎◌, append-nil, append_assoc, arith, range_with_len, cases_lt}
use Rattle.wcp_model.proofs.Words.{take_all, length-append, get_or-append-add, length-map-range_with_len}
use Rattle.wcp_model.proofs.Words.{get_or-map-range_with_len, slice_get-get_or, slice_get_within, same_Some, Step}
use Rattle.wcp_model.proofs.Words.{Action, Task, is_communication_of, is_send, communications, interval_at, message_at}
use Rattle.wcp_model.proofs.Words.{is_task_of, is_any_send, receives, message_number, step_of, steps_from}
use Rattle.wcp_model.proofs.Words.{computation_of}
use Rattle.wcp_model.specs.declared.step.Step.TheVariants as step
use Rattle.wcp_model.specs.declared.workload.Action.TheVariants as action
use Rattle.wcp_model.proofs.Growth.{at_grows}
use Rattle.wcp_model.proofs.Reached.{interval_at-end}
use Rattle.wcp_model.proofs.SamePlace.{count_by_no, element_within}

-- an action that sends or receives
abbrev pub is_communication : Action → Bool
is_communication (action.Observe holds) = false
is_communication (action.Send to) = true
is_communication (action.Recv from) = true

-- the communications of a process: its tasks that send or receive
abbrev pub communicates : ℕ → Task → Bool
communicates p task = is_task_of p task && is_communication task.action

-- the sends of any process
abbrev pub sends_any : Task → Bool
sends_any task = is_any_send task.action

-- among the steps after the earlier tasks, at each place stands the step of the task there
step_from : (order earlier tasks : List Task) (place : ℕ) (task : Task) → slice_get tasks place ≡ Some task → slice_get
    (steps_from order earlier tasks) place ≡ Some (step_of order (earlier ++ take place tasks) task.p task.action)
step_from order earlier [] place task found = cc
step_from order earlier (first ∷ rest) zero task found = grind (arith, append-nil)
step_from order earlier (first ∷ rest) (suc place) task found =
    grind (arith, append_assoc, step_from order (earlier ++ first ∷ []) rest place task found)

-- each task has one step
pub length-steps_from : (order earlier tasks : List Task) → length (steps_from order earlier tasks) ≡ length tasks
length-steps_from order earlier [] = refl
length-steps_from order earlier (first ∷ rest) = ap suc (length-steps_from order (earlier ++ first ∷ []) rest)

-- at the place of a task stands its step
pub step_at : (n : ℕ) (order : List Task) (place : ℕ) (task : Task) → slice_get order place ≡ Some task
    → slice_get (computation_of n order) place ≡ Some (step_of order (take place order) task.p task.action)
step_at n order place task found = at_grows (steps_from order [] order) (map step.Close (range_with_len 0 n)) place _
    (step_from order [] order place task found)

-- the computation has a step for each task and a close for each process
pub length-computation_of : (n : ℕ) (order : List Task) → length (computation_of n order) ≡ length order + n
length-computation_of n order = omega (
  arith,
  length-append (steps_from order [] order) (map step.Close
      (range_with_len 0 n)),
  length-steps_from order [] order,
  length-map-range_with_len step.Close 0 n,
)

-- behind the steps of the tasks each process closes, in order
pub close_step : (n : ℕ) (order : List Task) (p : ℕ) → p < n
    → slice_get (computation_of n order) (length order + p) ≡ Some (step.Close p)
close_step n order p within =
    let there = slice_get-get_or (computation_of n order) (length order + p) (step.Close p)
    (omega (arith, length-computation_of n order)) in
    there ∙ ap Some (ap (λ k. get_or (computation_of n order) (k + p) (step.Close p))
    (sym (length-steps_from order [] order)) ∙ get_or-append-add (steps_from order [] order) _ p _
    ∙ get_or-map-range_with_len step.Close 0 n p p (step.Close p) within (omega arith))

-- behind the tasks, each step is the close of the process of that number
pub closes_behind : (n : ℕ) (order : List Task) (place : ℕ) (x : Step) → length order ≤ place
    → slice_get (computation_of n order) place ≡ Some x → (p : ℕ) × (place ≡ length order + p) × (x ≡ step.Close p)
closes_behind n order place x behind at =
    let here : place ≡ length order + (place - length order) = omega arith in
    let within : place - length order < n =
    omega (arith, slice_get_within (computation_of n order) place x at, length-computation_of n order) in (
      place - length order,
      here,
      same_Some _ _ (sym at ∙ ap (slice_get (computation_of n order)) here
          ∙ close_step n order (place - length order) within),
    )

-- a step of the computation is that of the task at its place, or a close
pub task_at : (n : ℕ) (order : List Task) (place : ℕ) (s : Step) → slice_get (computation_of n order) place ≡ Some s
    → ((task : Task) × (slice_get order place ≡ Some task) × (step_of order (take place order) task.p task.action ≡ s))
    ⊎ ((p : ℕ) × (step.Close p ≡ s))
task_at n order place s found = elim (cases_lt place (length order)) [
  | inl within ↦ search (arith, element_within order place within, step_at)
  | inr behind ↦ grind (arith, closes_behind n order place s behind found)
]

takes_message : (order earlier : List Task) (q : ℕ) (a : Action) (p message : ℕ)
    → step_of order earlier q a ≡ step.Recv p message → (from : ℕ) × (q ≡ p) × (a ≡ action.Recv from)
    × (message_number order from q (count_by (receives from q) earlier) ≡ message)
takes_message order earlier q a p message same = grind arith

-- where a process observes, its task observes
pub observe_task : (n : ℕ) (order : List Task) (place p : ℕ) (holds : Bool) → slice_get (computation_of n order) place
    ≡ Some (step.Observe p holds) → slice_get order place ≡ Some (record { p = p; action = action.Observe holds })
observe_task n order place p holds found = grind (arith, task_at)

-- where a process sends, its task sends
pub send_task : (n : ℕ) (order : List Task) (place p to : ℕ) → slice_get (computation_of n order) place ≡ Some
    (step.Send p to) → slice_get order place ≡ Some (record { p = p; action = action.Send to })
send_task n order place p to found = grind (arith, task_at)

-- where a process receives, its task receives, and takes the message that the sender sent it after as many others as
-- the process received from there before
pub receive_task : (n : ℕ) (order : List Task) (place p message : ℕ) → slice_get (computation_of n order) place ≡ Some
    (step.Recv p message) → (from : ℕ) × (slice_get order place ≡ Some (record { p = p; action = action.Recv from }))
    × (message_number order from p (count_by (receives from p) (take place order)) ≡ message)
receive_task n order place p message found = grind (arith, takes_message, task_at)

-- what counts at no close counts in the steps as it does in the tasks
count_from : (f : Step → Bool) (g : Task → Bool) (order earlier tasks : List Task) (closes : List Step) (place : ℕ)
    → ((front : List Task) (task : Task) → f (step_of order front task.p task.action) ≡ g task)
    → ((k : ℕ) → count_by f (take k closes) ≡ 0)
    → count_by f (take place (steps_from order earlier tasks ++ closes)) ≡ count_by g (take place tasks)
count_from f g order earlier tasks closes zero alike none = refl
count_from f g order earlier [] closes (suc place) alike none = none (suc place)
count_from f g order earlier (first ∷ rest) closes (suc place) alike none =
    grind (arith, common_steps, count_from f g order (earlier ++ first ∷ []) rest closes place alike none)

-- what counts at no close counts nothing among closes
count_closes : (f : Step → Bool) (processes : List ℕ) (place : ℕ) → ((p : ℕ) → f (step.Close p) ≡ false)
    → count_by f (take place (map step.Close processes)) ≡ 0
count_closes f processes zero none = refl
count_closes f [] (suc place) none = refl
count_closes f (p ∷ rest) (suc place) none = grind (arith, none, count_by_no, count_closes f rest place none)

-- what counts at no close counts in a prefix of the computation as it does in the front of the order
pub count_of_steps : (f : Step → Bool) (g : Task → Bool) (n : ℕ) (order : List Task) (place : ℕ)
    → ((front : List Task) (task : Task) → f (step_of order front task.p task.action) ≡ g task) → ((p : ℕ)
    → f (step.Close p) ≡ false) → count_by f (take place (computation_of n order)) ≡ count_by g (take place order)
count_of_steps f g n order place alike none = count_from f g order [] order
    (map step.Close (range_with_len 0 n)) place alike (λ k. count_closes f (range_with_len 0 n) k none)

-- the interval at a place is the number of communications of the process in the front of the order
pub interval_at_is : (n : ℕ) (order : List Task) (p place : ℕ)
    → interval_at (computation_of n order) p place ≡ count_by (communicates p) (take place order)
interval_at_is n order p place =
    count_of_steps (is_communication_of p) (communicates p) n order place (λ front task. grind arith) (λ q. refl)

-- the number of a message sent at a place is the number of sends in the front of the order
pub message_at_is : (n : ℕ) (order : List Task) (place : ℕ)
    → message_at (computation_of n order) place ≡ count_by sends_any (take place order)
message_at_is n order place = count_of_steps is_send sends_any n order place (λ front task. grind arith) (λ q. refl)

-- the communications of a process in the whole computation are those in its tasks
pub communications_is : (n : ℕ) (order : List Task) (p : ℕ)
    → communications (computation_of n order) p ≡ count_by (communicates p) order
communications_is n order p =
    let long = length (computation_of n order) in
    sym (interval_at-end (computation_of n order) p) ∙ interval_at_is n order p long
    ∙ ap (count_by (communicates p)) (take_all long order (omega (arith, length-computation_of n order)))
