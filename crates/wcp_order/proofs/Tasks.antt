use Rattle.wcp_order.proofs.Words.{◌≡◌, ℕ, ◌≤◌, Bool, true, false, zero, suc, List, [], ◌∷◌, ◌+◌, take, count_by, Some}
use Rattle.wcp_order.proofs.Words.{arith, slice_get, All, cases_Bool, common_steps, slice_get_within}
use Rattle.wcp_order.proofs.Words.{get_or_from_slice_get, Task, count_by_yes, count_by_no, is_task_of, sends, receives}
use Rattle.wcp_model.specs.declared.workload.Action.TheVariants as action

-- what holds of each element holds of the one at a place
pub at_place : {X : Type 0} (P : X → Type 0) (xs : List X) (i : ℕ) (x : X) → All P xs → slice_get xs i ≡ Some x → P x
at_place P xs i x all at = grind (arith, get_or_from_slice_get, slice_get_within)

pub is_task_of_itself : (task : Task) → is_task_of task.p task ≡ true
is_task_of_itself task = grind arith

-- one more place counts one more at most
pub count_by-take_one : {X : Type 0} (f : X → Bool) (xs : List X) (n : ℕ)
    → count_by f (take (suc n) xs) ≤ count_by f (take n xs) + 1
count_by-take_one f [] n = grind (arith, common_steps)
count_by-take_one f (x ∷ xs) zero = grind (arith, count_by_yes f x [], count_by_no f x [], cases_Bool (f x))
count_by-take_one f (x ∷ xs) (suc n) = grind (arith, count_by_yes, count_by_no, cases_Bool, count_by-take_one f xs n)

-- the task that passes is that of the process
pub receives_is : (p q : ℕ) (task : Task) → receives p q task ≡ true → task ≡ record { p = q; action = action.Recv p }
receives_is p q task passes = grind arith

pub sends_is : (p q : ℕ) (task : Task) → sends p q task ≡ true → task ≡ record { p = p; action = action.Send q }
sends_is p q task passes = grind arith

pub sends_by : (p q : ℕ) (task : Task) → sends p q task ≡ true → is_task_of p task ≡ true
sends_by p q task passes = grind arith

pub receives_by : (p q : ℕ) (task : Task) → receives p q task ≡ true → is_task_of q task ≡ true
receives_by p q task passes = grind arith

-- no action passes as another one
pub receive_is_no_send : (p q r from : ℕ) → sends p q (record { p = r; action = action.Recv from }) ≡ false
receive_is_no_send p q r from = grind arith

pub send_is_no_receive : (p q r to : ℕ) → receives p q (record { p = r; action = action.Send to }) ≡ false
send_is_no_receive p q r to = grind arith

pub observe_is_no_send : (p q r : ℕ) (holds : Bool)
    → sends p q (record { p = r; action = action.Observe holds }) ≡ false
observe_is_no_send p q r holds = grind arith

pub observe_is_no_receive : (p q r : ℕ) (holds : Bool)
    → receives p q (record { p = r; action = action.Observe holds }) ≡ false
observe_is_no_receive p q r holds = grind arith

-- a send that passes is by the process and to the other
pub sends_ends : (p q r to : ℕ) → sends p q (record { p = r; action = action.Send to }) ≡ true → (r ≡ p) × (to ≡ q)
sends_ends p q r to passes = grind arith

pub receives_ends : (p q r from : ℕ) → receives p q (record { p = r; action = action.Recv from }) ≡ true
    → (r ≡ q) × (from ≡ p)
receives_ends p q r from passes = grind arith
