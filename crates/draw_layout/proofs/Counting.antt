-- The events before a place.
use Rattle.draw_layout.proofs.Words.{◌≡◌, ℕ, ◌+◌, ◌<◌, cond, List, [], ◌∷◌, ◌++◌, length, take, count_by, set}
use Rattle.draw_layout.proofs.Words.{slice_get}
use Rattle.draw_layout.proofs.Words.{slice_index, Some, arith, cases_eq, cases_lt, cases_Bool, ne_eqb, eq-eqb}
use Rattle.draw_layout.proofs.Words.{common_steps, count_before-yes, count_before-no, Task, is_event, is_event_of}

-- one more task is counted
pub counted_more : (order : List Task) (place : ℕ) (task : Task) (events : List ℕ) → slice_get order place ≡ Some task
    → task.p < length events → ((p : ℕ) → p < 16 → slice_index events p ≡ count_by (is_event_of p) (take place order))
    → (p : ℕ) → p < 16 → slice_index (set events task.p (slice_index events task.p + cond (is_event task.action) 1 0))
    p ≡ count_by (is_event_of p) (take (place + 1) order)
counted_more order place task events at inside counted p below =
    let yes = count_before-yes (is_event_of p) order place task at in
    let no = count_before-no (is_event_of p) order place task at in
    let old = counted p below in
    grind (arith, common_steps, cases_eq p task.p, cases_Bool (is_event task.action), ne_eqb, eq-eqb)

-- one more number is listed
pub listed_more : (order : List Task) (P : Task → ℕ → ℕ → Type 0) (numbers : List ℕ) (number place : ℕ)
    → length numbers ≡ place → ((k : ℕ) (task : Task) → k < place → slice_get order k ≡ Some task
    → P task k (slice_index numbers k))
    → ((task : Task) → slice_get order place ≡ Some task → P task place number) → (k : ℕ) (task : Task) → k < place + 1
    → slice_get order k ≡ Some task → P task k (slice_index (numbers ++ number ∷ []) k)
listed_more order P numbers number place all before here k task below at =
    grind (arith, common_steps, before k task, here, cases_lt k place)
