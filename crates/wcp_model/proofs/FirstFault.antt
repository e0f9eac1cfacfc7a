use Rattle.wcp_model.proofs.Words.{◌≡◌, ℕ, ◌<◌, Result, Err, ◌↔◌, Some, slice_get, get_or, Contains, lit<, arith, refl}
use Rattle.wcp_model.proofs.Words.{Plan, PlanFault, Procs, Cap, Hold, Depth, Mixed, Childless, Unattached, Watched}
use Rattle.wcp_model.proofs.Words.{HasFault, IsFirstFault, IsCheckedPlan, tree_faults, plan_faults}
use Rattle.wcp_model.specs.declared.plan.PlanFault.TheVariants.{Parent}
use Rattle.wcp_model.proofs.FirstReasons.{first_unique}

-- what holds of each fault of the list holds of each fault
pub none_listed : (plan : Plan) → ((k : ℕ) (fault : PlanFault) → k < 9 → slice_get plan_faults k ≡ Some fault
    → ¬ HasFault plan fault) → IsCheckedPlan plan
none_listed plan none Procs = none 0 Procs (lit< tt) refl
none_listed plan none Cap = none 1 Cap (lit< tt) refl
none_listed plan none Hold = none 2 Hold (lit< tt) refl
none_listed plan none Parent = none 3 Parent (lit< tt) refl
none_listed plan none Depth = none 4 Depth (lit< tt) refl
none_listed plan none Mixed = none 5 Mixed (lit< tt) refl
none_listed plan none Childless = none 6 Childless (lit< tt) refl
none_listed plan none Unattached = none 7 Unattached (lit< tt) refl
none_listed plan none Watched = none 8 Watched (lit< tt) refl

-- the faults that are looked for in a tree stand behind that of the parents
pub after_parent : (k : ℕ) → Contains tree_faults (get_or plan_faults k Procs) → 3 < k
after_parent k among = grind arith

-- to answer with the first fault is to answer with each first fault
pub first_alone : (plan : Plan) (one : PlanFault) → IsFirstFault plan one → (first : PlanFault)
    → (◌≡◌ {A = Result (Unit {0}) PlanFault} (Err one) (Err first)) ↔ IsFirstFault plan first
first_alone plan one is_first first = grind (arith, first_unique (HasFault plan) plan_faults one first is_first)
