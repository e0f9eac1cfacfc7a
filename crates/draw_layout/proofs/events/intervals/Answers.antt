use Rattle.draw_layout.proofs.Words.{◌≡◌, ◌∙◌, false, get_or, take, count_by, sym, arith, slice_get-get_or, same_Some}
use Rattle.draw_layout.proofs.Words.{length-set, length_push, length, ◌+◌, ap, slice_get_within, Task, is_event_of}
use Rattle.wcp_model.proofs.StepsOfOrder.{interval_at_is}
use Rattle.wcp_model.specs.declared.workload.Action.TheVariants.{Observe}
use Rattle.draw_layout.proofs.Counting.{counted_more, listed_more}
use Rattle.draw_layout.proofs.events.intervals.Goals as goal

pub loop-task-preserved : goal.loop-task-preserved
loop-task-preserved c =
    let order = c.args.order.now in
    let place = c.loop-task.task-index in
    let none : Task = record { p = 0; action = Observe false } in
    let task : Task = get_or order place none in
    let at = slice_get-get_or order place none c.loop-task-test.true in
    let old = c.loop-task.invariant in
    let below = c.requires.within place none c.loop-task-test.true in
    let pushed = c.in_ok-push.ensures.items in
    record {
      processes = length-set c.loop-task.events task.p _ ∙ old.processes;
      counted = rw c.ended.ensures (counted_more order place task c.loop-task.events at (omega (arith, below.0))
          old.counted);
      so_far = ap length pushed ∙ length_push _ _ ∙ ap (λ k. k + 1) old.so_far;
      each = rw pushed (listed_more order (λ task k number. number ≡ count_by (is_event_of task.p) (take k order)) _ _
          place old.so_far old.each
          (λ other there. rw (same_Some _ _ (sym there ∙ at)) (old.counted task.p (omega (arith, below.0)))));
    }

pub returns : goal.returns
returns c = record {
  tasks = omega arith;
  each = λ place task at. c.loop-task.invariant.each place task
      (omega (arith, slice_get_within c.args.order.now place task at)) at
      ∙ sym (interval_at_is c.args.n c.args.order.now task.p place);
}
