use Rattle.wcp_order.proofs.Words.{false, get_or, arith, refl, subst, both_ways, false≢true, take_all, take_more}
use Rattle.wcp_order.proofs.Words.{slice_get-get_or, Observe, Task, IsFitOrder}
use Rattle.wcp_order.proofs.Counting.{none_done, done_more, ready_if_fit}
use Rattle.wcp_order.proofs.listing.follows.Goals as goal

none : Task
none = record { p = 0; action = Observe false }

pub loop-task-init : goal.loop-task-init
loop-task-init c = none_done c.args.n c.args.in_transit.now c.requires.none

pub returns-then-not-is_ready : goal.returns-then-not-is_ready
unfolding none
returns-then-not-is_ready c =
    let place = c.loop-task.task-index in
    let tasks = c.args.tasks.now in
    let task : Task = get_or tasks place none in
    let at = slice_get-get_or tasks place none c.loop-task-test.true in (
      λ holds. absurd (false≢true holds),
      λ fit. absurd (both_ways c.is_ready.result c.if-not-is_ready.true (c.is_ready.ensures.1
          (ready_if_fit c.args.n tasks place c.loop-task.in_transit c.requires.within c.loop-task.invariant fit task.p
          task.action at))),
    )

pub loop-task-preserved : goal.loop-task-preserved
unfolding none
loop-task-preserved c =
    let place = c.loop-task.task-index in
    let tasks = c.args.tasks.now in
    let task : Task = get_or tasks place none in
    rw (c.count.ensures, take_more tasks place none c.loop-task-test.true)
    (done_more c.args.n _ c.loop-task.in_transit c.loop-task.invariant task.p task.action
    (c.requires.within place none c.loop-task-test.true) (c.is_ready.ensures.0 c.if-not-is_ready.false))

pub returns : goal.returns
returns c =
    let all = take_all c.loop-task.task-index c.args.tasks.now (omega arith) in
    (λ _. subst (λ order. IsFitOrder order order) all c.loop-task.invariant.fit, λ _. refl)
