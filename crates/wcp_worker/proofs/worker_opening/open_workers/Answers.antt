use Rattle.wcp_worker.proofs.Words.{◌<◌, List, length, get_or, ap, subst, arith, Task, HasTasks}
use Rattle.wcp_worker.proofs.OpenedWorkers.{few_given, workers_opened}
use Rattle.wcp_worker.proofs.worker_opening.open_workers.Goals as goal

pub open_lanes-requires-clause-few_actions : goal.open_lanes-requires-clause-few_actions
open_lanes-requires-clause-few_actions c = λ p d below.
    let idle = c.in_ok-workers.workers.items in
    let given = c.in_ok-give_tasks.ensures in
    let within : p < length idle = omega (arith, given.count, below) in
    let few = few_given c.deref.result.now idle c.give_tasks.new.workers.items p d c.in_ok-workers.ensures.1 within
    (given.each p d within) in
    omega (arith, few, ap length c.deref.ensures.value, c.requires.read.few_tasks)

pub returns : goal.returns
returns c =
    let idle = c.in_ok-workers.workers.items in
    let given = c.give_tasks.new.workers.items in
    workers_opened c.args.workload.now.plan.n c.args.workload.now.plan.watched c.args.workload.now.plan.flag
    c.args.workload.now.tasks.items c.args.probes.items idle given c.open_lanes.new.workers.items
    c.requires.probes c.in_ok-workers.ensures.0 c.in_ok-workers.ensures.1 c.in_ok-give_tasks.ensures.count
    (λ p d below. subst (λ (tasks : List Task). HasTasks p tasks (get_or idle p d) (get_or given p d))
    c.deref.ensures.value (c.in_ok-give_tasks.ensures.each p d below))
    c.in_ok-open_lanes.ensures
