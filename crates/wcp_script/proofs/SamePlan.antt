-- Plans with the same lists have the same faults.
use Rattle.std.specs.FinSet as set
use Rattle.std.specs.Cmp.{nat_cmp_total}
use Rattle.wcp_script.proofs.Words.{◌≡◌, ap, sym, ◌∙◌, arith, Plan, HasFault, IsSamePlan, HeadRead, IsPlanOf}
use Rattle.wcp_script.proofs.Words.{is_watched_by}
use Rattle.wcp_model.specs.declared.plan.PlanFault.{PlanFault}
use Rattle.wcp_model.specs.declared.plan.PlanFault.TheVariants as fault

pub same_plan : (one other : HeadRead) (plan plan' : Plan) → one ≡ other → IsPlanOf one.head plan
    → IsPlanOf other.head plan' → IsSamePlan plan plan'
same_plan one other plan plan' same h k =
    let watched : plan.watched ≡ plan'.watched = set.same_set nat_cmp_total set.nat_cmp-IsAntisymmetric _ _ (λ p.
    h.watched p ∙ ap (λ (read : HeadRead). is_watched_by read.head.n read.head.watched p) same ∙ sym (k.watched p)) in
    grind (arith, watched)

pub same_fault_of_plan : (one other : Plan) → IsSamePlan one other → (first : PlanFault) → HasFault one first
    → HasFault other first
same_fault_of_plan one other same fault.Procs has = rw (← same.n) has
same_fault_of_plan one other same fault.Cap has = rw (← same.cap) has
same_fault_of_plan one other same fault.Hold has = rw (← same.hold) has
same_fault_of_plan one other same fault.Parent has = rw (← same.parents) has
same_fault_of_plan one other same fault.Depth has = rw (← same.parents) has
same_fault_of_plan one other same fault.Mixed has = rw (← same.parents, ← same.attach, ← same.n) has
same_fault_of_plan one other same fault.Childless has = rw (← same.parents, ← same.attach, ← same.n) has
same_fault_of_plan one other same fault.Unattached has = rw (← same.parents, ← same.attach, ← same.n) has
same_fault_of_plan one other same fault.Watched has = rw (← same.watched, ← same.n) has
