use Rattle.wcp_order.proofs.Words.{false, ◌∙◌, length-set, Observe, Task}
use Rattle.wcp_order.proofs.Histories.{one_more_listed}
use Rattle.wcp_order.proofs.order.histories.Goals as goal

pub loop-task-preserved : goal.loop-task-preserved
loop-task-preserved c =
    let none : Task = record { p = 0; action = Observe false } in
    let before = c.loop-task.invariant in
    let inside = c.loop-task-test.true in
    record {
      processes = length-set c.loop-task.histories.items _ c.push-in-loop-task.new.self ∙ before.processes;
      tasks = one_more_listed c.args.n c.args.tasks.now c.loop-task.task-index none inside c.loop-task.histories.items
          before.processes before.tasks
          c.index_mut.result.now c.push-in-loop-task.new.self
          (c.requires c.loop-task.task-index none inside).0 c.index_mut.ensures.value c.in_ok-push-2.ensures.items;
    }
