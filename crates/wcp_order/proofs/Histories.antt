-- The tasks of each process apart.
use Rattle.wcp_order.proofs.Words.{common_steps, gets, ◌≡◌, ℕ, ◌+◌, ◌<◌, List, [], ◌∷◌, ◌++◌, length, take, get_or, set}
use Rattle.wcp_order.proofs.Words.{get_or-set_same, get_or-set_other, sym, ◌∙◌, ap, arith, eqb-true, eq-eqb, filter}
use Rattle.wcp_order.proofs.Words.{All, cases_eq, ne_eqb, append-nil, get_or-map, map-set, length-map, All-filter}
use Rattle.wcp_order.proofs.Words.{filter_more, filter_passes, Task, is_task_of, IsWithin, IsHistory, history_at}
use Rattle.std.specs.declared.vec.Vec.{Vec}

-- the tasks of a process are its own
pub IsHistory_filter : (n p : ℕ) (tasks : List Task) → All (IsWithin n) tasks
    → IsHistory n p (filter (is_task_of p) tasks)
IsHistory_filter n p tasks within k d below = (
  eqb-true _ p (filter_passes (is_task_of p) tasks k d below),
  All-filter (is_task_of p) (IsWithin n) tasks within k d below,
)

module _ {A : Type 0} (histories : List (Vec Task A)) (p : ℕ) (history : Vec Task A) (inside : p < length histories)
    (read : history ≡ get_or histories p history) where
  pub history_read : history_at histories p ≡ history.items
  history_read = get_or-map (λ history. history.items) histories p history [] inside
      ∙ ap (λ (h : Vec Task A). h.items) (sym read)

-- one more task is listed
module _ {A : Type 0} (n : ℕ) (tasks : List Task) (place : ℕ) (d : Task) (inside : place < length tasks)
    (histories : List (Vec Task A)) (count : length histories ≡ n)
    (are : (p : ℕ) → p < n → history_at histories p ≡ filter (is_task_of p) (take place tasks)) where
  abbrev task : Task
  task = get_or tasks place d

  pub one_more_listed : (history written : Vec Task A) → task.p < n → history ≡ get_or histories task.p history
      → written.items ≡ history.items ++ task ∷ []
      → (p : ℕ) → p < n → history_at (set histories task.p written) p ≡ filter (is_task_of p) (take (place + 1) tasks)
  one_more_listed history written own read longer p below =
      grind (
        arith,
        common_steps,
        gets,
        map-set,
        filter_more,
        tasks,
        history_read,
        cases_eq,
        get_or-set_same,
        length-map,
        eq-eqb,
        get_or-set_other,
        append-nil,
        ne_eqb,
      )
