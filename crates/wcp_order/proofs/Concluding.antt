-- What is found where no process can go on.
use Rattle.wcp_order.proofs.Words.{count_before-mono, take_all, ◌≡◌, ℕ, ◌+◌, ◌<◌, ◌≤◌, cond, List, [], ◌∷◌, length}
use Rattle.wcp_order.proofs.Words.{take, count_by, Some, refl, ◌∙◌, ap, arith, slice_get, slice_index, filter, All}
use Rattle.wcp_order.proofs.Words.{cases_lt, All-head, All-tail, length-filter, sum_by-take-le, Task, is_task_of}
use Rattle.wcp_order.proofs.Words.{IsWithin, IsFitOrder, element_within, count_before-yes, same_count, IsFirstStuck}
use Rattle.wcp_order.proofs.Words.{IsProgress, IsBlocked, IsFirstLeft, common_steps, gets}
use Rattle.wcp_model.proofs.AcceptedOrder.{IsFitOrder-itself}
use Rattle.wcp_order.proofs.Doable.{can_if_done, done_if_can}
use Rattle.wcp_order.proofs.Prefixes.{begins_itself, no_more_than_all}
use Rattle.wcp_order.proofs.Lengths.{length_tasks-le}
use Rattle.wcp_order.proofs.Tasks.{at_place, is_task_of_itself}

-- of two lists of histories that are the same the progress is
pub IsProgress_same : (n : ℕ) (history other : ℕ → List Task) (order : List Task) (done in_transit : List ℕ)
    → ((p : ℕ) → p < n → history p ≡ other p) → IsProgress n history order done in_transit
    → IsProgress n other order done in_transit
IsProgress_same n history other order done in_transit same progress = grind arith

-- where none are left to count down of the process of a task, it is the first that is left
pub IsFirstLeft_at : (tasks : List Task) (done left : List ℕ) (place : ℕ) → place < length tasks
    → All (λ task. task.p < length done) tasks
    → ((p : ℕ) → p < length done → slice_index left p + count_by (is_task_of p) (take place tasks) ≡ slice_index done p)
    → ((task : Task) → slice_get tasks place ≡ Some task → slice_index left task.p ≡ 0) → IsFirstLeft tasks done place
IsFirstLeft_at tasks done left place inside within counted none = record {
  inside = inside;
  left = λ task at. grind (arith, common_steps, gets);
  before = λ i task at earlier.
      let more = count_before-yes (is_task_of task.p) tasks i task at (is_task_of_itself task) in
      let behind = count_before-mono (is_task_of task.p) tasks (i + 1) place (omega (arith, earlier)) in
      omega (arith, more, behind, counted task.p (at_place (λ task. task.p < length done) tasks i task within at));
}

-- no task is of a process that isn't within the limits
filter_outside : (n p : ℕ) (tasks : List Task) → All (IsWithin n) tasks → n ≤ p → filter (is_task_of p) tasks ≡ []
filter_outside n p [] within outside = refl
filter_outside n p (task ∷ tasks) within outside =
    grind (arith, All-head, filter_outside n p tasks (All-tail (IsWithin n) task tasks within) outside, All-tail)

module _ (n : ℕ) (tasks order : List Task) (done in_transit : List ℕ) (within : All (IsWithin n) tasks)
    (progress : IsProgress n (λ p. filter (is_task_of p) tasks) order done in_transit) where
  -- no more tasks are done than there are
  pub length_order-le : length order ≤ length tasks
  length_order-le = length_tasks-le n order tasks (λ k d below. (progress.is_done.within k d below).0)
      (λ p below. no_more_than_all (is_task_of p) (is_task_of p) (λ _ h. h) tasks order (progress.first p below))

  -- where all tasks are done, their order is fit
  pub IsFitOrder_done : ((p : ℕ) → p < n → count_by (is_task_of p) tasks ≤ slice_index done p) → IsFitOrder tasks order
  IsFitOrder_done all_done = record {
    same_tasks = λ p. grind (arith, cases_lt, take_all, length-filter, filter_outside);
    sent_first = progress.is_done.fit.sent_first;
  }

  -- where no process can go on, the first task that is left is the first stuck one
  pub IsFirstStuck_left : ((p : ℕ) → p < n → IsBlocked n (filter (is_task_of p) tasks) done in_transit p) → (place : ℕ)
      → IsFirstLeft tasks done place → IsFirstStuck tasks place
  IsFirstStuck_left blocked place first = record {
    inside = first.inside;
    stuck = λ can.
        let (task, at) = element_within tasks place first.inside in
        let among = done_if_can n tasks order done in_transit within progress blocked can task at in
        let below = (at_place (IsWithin n) tasks place task within at).0 in
        omega (arith, among, first.left task at, progress.counts task.p below);
    before = λ j earlier.
        let (task, at) = element_within tasks j (omega (arith, earlier, first.inside)) in
        let below = (at_place (IsWithin n) tasks j task within at).0 in
        can_if_done n tasks order within progress.is_done.fit progress.first j task at
        (omega (arith, first.before j task at earlier, progress.counts task.p below));
  }

-- a task that can't be done leaves no fit order
pub no_fit_order : (n : ℕ) (tasks : List Task) (place : ℕ) → All (IsWithin n) tasks → IsFirstStuck tasks place
    → (order : List Task) → IsFitOrder tasks order → ⊥
no_fit_order n tasks place within first order fit =
    let (task, at) = element_within tasks place first.inside in
    let p : ℕ = task.p in
    let more = count_before-yes (is_task_of p) tasks place task at (is_task_of_itself task) in
    let at_most = sum_by-take-le (λ t. cond (is_task_of p t) 1 0) tasks (place + 1) in
    let all_done = same_count (is_task_of p) (is_task_of p) order tasks (λ _ h. h) (fit.same_tasks p) in
    first.stuck (can_if_done n tasks order within (IsFitOrder-itself tasks order fit)
    (λ q below. begins_itself (is_task_of q) order ∙ ap (take (count_by (is_task_of q) order)) (fit.same_tasks q))
    place task at
    (omega (arith, more, at_most, all_done)))
