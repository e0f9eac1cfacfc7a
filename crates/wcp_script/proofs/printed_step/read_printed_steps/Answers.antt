use Rattle.std.proofs.Common.{arith, ◌∙◌, length-append}
use Rattle.wcp_script.proofs.PrintedSteps.{steps_behind_step}
use Rattle.wcp_script.proofs.printed_step.read_printed_steps.Goals as goal

pub loop-rest-preserved : goal.loop-rest-preserved
loop-rest-preserved c =
    let found = c.in-Some.ensures in
    let pushed = c.in_ok-push.ensures in
    record {
      few = omega (arith, c.len.ensures, c.loop-rest-test.true, pushed.len);
      so_far = λ n last. rw pushed.items
          (steps_behind_step n last c.loop-rest.steps.items c.in-Some.step c.loop-rest.rest.now
          c.in-Some.after.now found.line found.numbers
          (omega (arith, c.len.ensures, c.loop-rest-test.true))
          ∙ c.loop-rest.invariant.so_far n last);
      shorter = grind (arith, length-append);
    }
