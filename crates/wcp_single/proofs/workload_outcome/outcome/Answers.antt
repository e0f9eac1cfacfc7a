use Rattle.wcp_single.proofs.Words.{◌≡◌, take, sym, subst, arith, take_all, take_more, HasDone, IsEnding}
use Rattle.wcp_single.proofs.StartedRun.{next_at}
use Rattle.wcp_single.proofs.EndedRun.{begins_to_end}
use Rattle.wcp_single.proofs.workload_outcome.outcome.Goals as goal

pub perform-requires-clause-next : goal.perform-requires-clause-next
perform-requires-clause-next c =
    record {
      watched = c.args.plan.now.watched;
      flag = c.args.plan.now.flag;
      done = take c.loop-task.task-index
          c.args.order.now;
      next = next_at c.args.plan.now.n c.args.order.now c.loop-task.task-index _ c.requires.few_tasks
          c.requires.within c.requires.fit c.loop-task-test.true;
      run = c.loop-task.invariant;
    }

pub loop-task-preserved : goal.loop-task-preserved
loop-task-preserved c =
    let place = c.loop-task.task-index in
    subst (λ done. HasDone c.args.plan.now.n c.args.plan.now.watched c.args.plan.now.flag done
    c.perform.new.self.processes.items c.perform.new.self.in_transit.items c.perform.new.self.checker)
    (sym (take_more c.args.order.now place _ c.loop-task-test.true))
    (c.in_ok-perform.ensures c.args.plan.now.watched c.args.plan.now.flag (take place c.args.order.now)
    (next_at c.args.plan.now.n c.args.order.now place _ c.requires.few_tasks c.requires.within c.requires.fit
    c.loop-task-test.true) c.loop-task.invariant)

pub loop-p-init : goal.loop-p-init
loop-p-init c =
    let all : take c.loop-task.task-index c.args.order.now ≡ c.args.order.now =
    take_all c.loop-task.task-index c.args.order.now (omega arith) in
    begins_to_end c.args.plan.now.n c.args.plan.now.watched c.args.plan.now.flag c.args.order.now
    c.loop-task.run.processes.items c.loop-task.run.in_transit.items c.loop-task.run.checker
    (subst (λ done. HasDone c.args.plan.now.n c.args.plan.now.watched c.args.plan.now.flag done
    c.loop-task.run.processes.items c.loop-task.run.in_transit.items c.loop-task.run.checker) all
    c.loop-task.invariant)

pub returns : goal.returns
returns c =
    let all : c.loop-p.p ≡ c.args.plan.now.n = omega arith in
    c.outcome.ensures c.args.plan.now.n c.args.plan.now.watched c.args.plan.now.flag c.args.order.now c.requires.within
    (subst (λ p. IsEnding c.args.plan.now.n c.args.plan.now.watched c.args.plan.now.flag c.args.order.now p
    c.loop-p.run.processes.items c.loop-p.run.checker) all c.loop-p.invariant)
