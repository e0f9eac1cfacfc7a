use Rattle.std.proofs.Common.{[], ◌∷◌, ◌++◌}
use Rattle.trace_log.specs.Turns.{seen_logged}
use Rattle.trace_moment.specs.Moment.{Taken}
use Rattle.trace_runs.proofs.KeptEnds.{next_known}
use Rattle.trace_runs.proofs.taking.take_next.Goals as goal

pub returns-clause-taken : goal.returns-clause-taken
returns-clause-taken c taken has at =
    let next : Taken = record { logged = seen_logged c.args.logged.now; holds = c.args.holds } in
    next_known (taken ++ next ∷ []) c.add.new.queues (c.in_ok-add.ensures.waiting taken has.keeps at)
    (c.in_ok-add.ensures.settled has.settled) c.all_stand.result c.all_stand.ensures
