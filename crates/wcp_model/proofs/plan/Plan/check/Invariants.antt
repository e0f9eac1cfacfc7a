use Rattle.wcp_model.proofs.Words.{◌≡◌, ℕ, ◌<◌, Some, slice_get, PlanFault, HasFault, plan_faults}
use Rattle.wcp_model.proofs.plan.Plan.check.Given as goal

abbrev pub invariant-loop-fault : goal.invariant-loop-fault
invariant-loop-fault l = (k : ℕ) (fault : PlanFault) → k < l.fault-index → slice_get plan_faults k ≡ Some fault
    → ¬ HasFault l.self fault
