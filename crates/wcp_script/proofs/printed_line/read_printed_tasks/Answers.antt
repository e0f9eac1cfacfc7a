use Rattle.std.proofs.Common.{arith, ◌∙◌, length-append}
use Rattle.wcp_script.proofs.PrintedTasks.{steps_behind_task}
use Rattle.wcp_script.proofs.printed_line.read_printed_tasks.Goals as goal

pub loop-rest-preserved : goal.loop-rest-preserved
loop-rest-preserved c =
    let found = c.in-Some.ensures in
    let pushed = c.in_ok-push.ensures in
    record {
      few = omega (arith, c.len.ensures, c.loop-rest-test.true, pushed.len);
      so_far = λ last. rw pushed.items
          (steps_behind_task c.args.n last c.loop-rest.tasks.items c.in-Some.task c.loop-rest.rest.now
          c.in-Some.after.now found.line found.within c.requires.few
          (omega (arith, c.len.ensures, c.loop-rest-test.true))
          ∙ c.loop-rest.invariant.so_far last);
      shorter = grind (arith, length-append);
    }
