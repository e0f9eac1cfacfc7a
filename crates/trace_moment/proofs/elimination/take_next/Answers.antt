use Rattle.trace_log.specs.Turns.{seen_logged}
use Rattle.trace_moment.proofs.Words.{[], ◌∷◌, ◌++◌, Taken}
use Rattle.trace_moment.proofs.KeptAll.{KeepAll-added, KeepTaken-settled}
use Rattle.trace_moment.proofs.elimination.take_next.Goals as goal

pub returns-clause-all : goal.returns-clause-all
returns-clause-all c taken has next =
    KeepAll-added taken (record { logged = seen_logged c.args.logged.now; holds = c.args.holds }) c.args.place
    c.args.queues.now c.add.new.queues c.eliminate.new.queues c.args.floors.now c.add.new.floors
    c.eliminate.new.floors has next (c.in_ok-add.ensures.adds taken) c.eliminate.ensures.left
    c.eliminate.ensures.settled

pub returns-clause-taken : goal.returns-clause-taken
returns-clause-taken c taken has next =
    let one : Taken = record { logged = seen_logged c.args.logged.now; holds = c.args.holds } in
    KeepTaken-settled (taken ++ one ∷ []) c.eliminate.new.queues c.eliminate.new.floors c.all_stand.result
    (returns-clause-all c taken has next) c.all_stand.ensures
