use Rattle.wcp_script.proofs.Words.{refl, arith, OfPlan, ReadsText, seen_read, few_processes}
use Rattle.wcp_script.proofs.HandedOn.{handed_on, fault_in_step}
use Rattle.wcp_script.proofs.text.read_text.Goals as goal

pub read_steps-requires-clause-few : goal.read_steps-requires-clause-few
read_steps-requires-clause-few g c =
    omega (arith, few_processes c.in_ok-plan.plan (c.in-Ok.ensures.ok.0 refl), c.in_ok-plan.ensures.n)

pub returns-in-Err-clause-exact : goal.returns-in-Err-clause-exact
returns-in-Err-clause-exact g c =
    OfPlan (seen_read c.in_ok-head.field-0) c.in_ok-plan.plan c.in-Err.field-0 c.in_ok-head.ensures.exact
    c.in_ok-plan.ensures ((c.in-Err.ensures.err c.in-Err.field-0).0 refl).holds refl

pub returns-in_err-steps-clause-exact : goal.returns-in_err-steps-clause-exact
returns-in_err-steps-clause-exact g c =
    handed_on (ReadsText g.S.StepLine.text_kind c.args.text.now) c.from_residual-in_err-steps.result
    c.in_err-steps.field-0.0 c.from_residual-in_err-steps.ensures
    (fault_in_step g.S.StepLine.text_kind c.args.text.now (seen_read c.in_ok-head.field-0) c.in_ok-plan.plan
    c.in_err-steps.field-0.0 c.in_ok-head.ensures.exact c.in_ok-plan.ensures
    (c.in-Ok.ensures.ok.0 refl) c.in_err-steps.ensures)

pub returns-clause-exact : goal.returns-clause-exact
returns-clause-exact g c = (
  record {
    read = seen_read c.in_ok-head.field-0;
    head = c.in_ok-head.ensures.exact;
    plan_of_head = c.in_ok-plan.ensures;
    checked = c.in-Ok.ensures.ok.0 refl;
    lines = c.in_ok-steps.ensures;
  },
  refl,
)
