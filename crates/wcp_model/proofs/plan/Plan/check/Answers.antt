use Rattle.wcp_model.proofs.Words.{refl, arith, slice_get-get_or, Procs, plan_faults}
use Rattle.wcp_model.specs.declared.plan.PlanFault.TheVariants.{Parent}
use Rattle.wcp_model.proofs.FirstFault.{none_listed, after_parent, first_alone}
use Rattle.wcp_model.proofs.plan.Plan.check.Goals as goal

pub has_fault-requires : goal.has_fault-requires
has_fault-requires c = λ of_tree. c.loop-fault.invariant 3 Parent (after_parent c.loop-fault.fault-index of_tree) refl

pub returns-then-has_fault-clause-err : goal.returns-then-has_fault-clause-err
returns-then-has_fault-clause-err c =
    first_alone c.args.self.now _ (record {
      place = c.loop-fault.fault-index;
      listed = slice_get-get_or plan_faults c.loop-fault.fault-index Procs (omega arith);
      holds = c.has_fault.ensures.0 c.if-has_fault.true;
      none_before = c.loop-fault.invariant;
    })

pub returns-clause-ok : goal.returns-clause-ok
returns-clause-ok c =
    (λ _. none_listed c.args.self.now (λ k fault below. c.loop-fault.invariant k fault (omega arith)), λ _. refl)
