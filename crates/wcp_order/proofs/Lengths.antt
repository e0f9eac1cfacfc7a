-- Lists with as many tasks of each process are as long.
use Rattle.wcp_order.proofs.Words.{get_or, ◌≡◌, ℕ, suc, zero, ◌<◌, ◌≤◌, List, [], ◌∷◌, length, Bool, true, not}
use Rattle.wcp_order.proofs.Words.{count_by, refl, arith, filter, All, All-filter, filter_passes, length-filter, Task}
use Rattle.wcp_order.proofs.Words.{is_task_of, IsWithin, same_count}
use Rattle.std.proofs.lemmas.List.Filters.{length-filter_both}
use Rattle.wcp_order.proofs.Prefixes.{count_by-filter}

abbrev is_of_other : ℕ → Task → Bool
is_of_other n task = not (is_task_of n task)

process_below : (n : ℕ) (task : Task) → is_of_other n task ≡ true → task.p < suc n → task.p < n
process_below n task other below = grind arith

below_is_other : (n p : ℕ) → p < n → (task : Task) → is_task_of p task ≡ true → is_of_other n task ≡ true
below_is_other n p below task passes = grind arith

-- with no more tasks of each process a list is no longer
pub length_tasks-le : (n : ℕ) (xs ys : List Task) → All (λ task. task.p < n) xs
    → ((p : ℕ) → p < n → count_by (is_task_of p) xs ≤ count_by (is_task_of p) ys) → length xs ≤ length ys
length_tasks-le zero [] ys within fewer = omega arith
length_tasks-le zero (task ∷ xs) ys within fewer = absurd (omega (arith, within 0 task (omega arith)))
length_tasks-le (suc n) xs ys within fewer =
    let others : Task → Bool = is_of_other n in
    let low : All (λ task. task.p < n) (filter others xs) = λ k d inside.
    process_below n (get_or (filter others xs) k d) (filter_passes others xs k d inside)
    (All-filter others (λ task. task.p < suc n) xs within k d inside) in
    let counts = λ (p : ℕ) (below : p < n). count_by-filter others (is_task_of p) (below_is_other n p below) in
    let rest = length_tasks-le n (filter others xs) (filter others ys) low
    (λ p below. omega (arith, fewer p (omega (arith, below)), counts p below xs, counts p below ys)) in
    let split = length-filter_both (is_task_of n) others (λ _. refl) in
    let counted = length-filter (is_task_of n) in
    omega (arith, rest, fewer n (omega arith), split xs, split ys, counted xs, counted ys)

-- an order with the same tasks of each process is as long
pub same_length : (n : ℕ) (tasks order : List Task) → All (IsWithin n) tasks → All (IsWithin n) order
    → ((p : ℕ) → filter (is_task_of p) order ≡ filter (is_task_of p) tasks) → length order ≡ length tasks
same_length n tasks order within order_within same =
    let counts = λ (p : ℕ). same_count (is_task_of p) (is_task_of p) order tasks (λ _ h. h) (same p) in
    omega (
      arith,
      length_tasks-le n order tasks (λ k d below. (order_within k d below).0) (λ p below. omega (arith, counts p)),
      length_tasks-le n tasks order (λ k d below. (within k d below).0) (λ p below. omega (arith, counts p)),
    )
