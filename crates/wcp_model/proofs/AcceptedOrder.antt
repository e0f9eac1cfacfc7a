use Rattle.wcp_model.proofs.Words.{◌≡◌, ℕ, ◌+◌, List, All, length, take, slice_get, Some, refl, sym, ◌∙◌, subst, inl}
use Rattle.wcp_model.proofs.Words.{inr, eq-eqb, arith, cases_lt, take_all, take-take, length-take, slice_get_within}
use Rattle.wcp_model.proofs.Words.{get_or_from_slice_get, same_Some, Close, Task, message_at, IsAccepted, is_task_of}
use Rattle.wcp_model.proofs.Words.{computation_of, IsFitOrder}
use Rattle.wcp_model.proofs.SamePlace.{element_within, same_place}
use Rattle.wcp_model.proofs.StepsOfOrder.{step_at, closes_behind, receive_task}
use Rattle.wcp_model.proofs.MessagesOfOrder.{send_of_receive, delivery_step, message_sent_before}

-- a fit order of tasks is one of itself
pub IsFitOrder-itself : (tasks order : List Task) → IsFitOrder tasks order → IsFitOrder order order
IsFitOrder-itself tasks order fit = record { same_tasks = λ p. refl; sent_first = fit.sent_first }

-- and so is each front of it
pub IsFitOrder-take : (place : ℕ) (order : List Task) → IsFitOrder order order
    → IsFitOrder (take place order) (take place order)
IsFitOrder-take place order fit = record {
  same_tasks = λ p. refl;
  sent_first = λ k p q.
      elim (cases_lt place k) [
        | inl past ↦ rw (take_all k (take place order) (omega (arith, length-take place order)))
            (fit.sent_first place p q)
        | inr le ↦ rw (take-take k place order le) (fit.sent_first k p q)
      ];
}

-- what holds of all tasks holds of a fit order of them
pub All-fit_order : (P : Task → Type 0) (tasks order : List Task) → IsFitOrder tasks order → All P tasks → All P order
All-fit_order P tasks order fit all i d inside =
    let (task, at) = element_within order i inside in
    let there =
    same_place (is_task_of task.p) order tasks i task (fit.same_tasks task.p) at (eq-eqb task.p task.p refl) in
    rw (get_or_from_slice_get order i task d at) (subst P (get_or_from_slice_get tasks there.other task task
    there.found) (all there.other task (slice_get_within tasks there.other task there.found)))

module _ (n : ℕ) (order : List Task) where
  -- a process closes behind the tasks, at the place of its number
  closes_at : (place p : ℕ) → slice_get (computation_of n order) place ≡ Some (Close p) → place ≡ length order + p
  closes_at place p at = elim (cases_lt place (length order)) [
    | inl before ↦
        let task = element_within order place before in
        grind (arith, step_at n order place task.0 task.1)
    | inr behind ↦ grind (arith, closes_behind n order place (Close p) behind at)
  ]

  -- the computation of a fit order is accepted
  pub order_accepted : IsFitOrder order order → IsAccepted (computation_of n order)
  order_accepted fit = record {
    sent_first = λ place p message at.
        let (from, receive, takes) = receive_task n order place p message at in
        let earlier = send_of_receive fit from p place receive in
        let taken = same_Some _ _ (sym at ∙ delivery_step n earlier.2) in
        let same : message ≡ message_at (computation_of n order) earlier.0 = cc taken in
        omega (arith, message_sent_before n fit earlier.2);
    close_last = grind (arith, closes_at, closes_behind);
  }
