use Rattle.wcp_single.proofs.Words.{sym, ◌∙◌, arith, IfOk-weaker, IsWorkloadOutcome, IsWithin, IsFitOrder-itself}
use Rattle.wcp_single.proofs.Words.{All-fit_order}
use Rattle.wcp_order.proofs.Lengths.{same_length}
use Rattle.wcp_single.proofs.workload_outcome.single_in_order.Goals as goal

pub outcome-requires-clause-few_tasks : goal.outcome-requires-clause-few_tasks
outcome-requires-clause-few_tasks c =
    let n = c.args.workload.now.plan.n in
    let tasks = c.args.workload.now.tasks.items in
    let order = c.args.order.now in
    omega (
      arith,
      same_length n tasks order c.requires.read.within (All-fit_order (IsWithin n) tasks order
          c.requires.fit c.requires.read.within) c.requires.fit.same_tasks,
      c.requires.read.few_tasks,
    )

pub outcome-requires-clause-within : goal.outcome-requires-clause-within
outcome-requires-clause-within c = All-fit_order (IsWithin c.args.workload.now.plan.n) c.args.workload.now.tasks.items
    c.args.order.now c.requires.fit c.requires.read.within

pub outcome-requires-clause-fit : goal.outcome-requires-clause-fit
outcome-requires-clause-fit c = IsFitOrder-itself c.args.workload.now.tasks.items c.args.order.now c.requires.fit

pub returns : goal.returns
returns c =
    let n = c.args.workload.now.plan.n in
    let watched = c.args.workload.now.plan.watched in
    let flag = c.args.workload.now.plan.flag in
    IfOk-weaker c.outcome.result (IsWorkloadOutcome n watched flag c.args.order.now)
    (IsWorkloadOutcome n watched flag c.args.workload.now.tasks.items)
    (λ outcome is other fit. is other (record {
      same_tasks = λ p. fit.same_tasks p
          ∙ sym (c.requires.fit.same_tasks p);
      sent_first = fit.sent_first;
    })) c.outcome.ensures
