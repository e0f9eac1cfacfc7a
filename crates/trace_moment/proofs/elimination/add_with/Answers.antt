use Rattle.trace_log.specs.Turns.{seen_logged}
use Rattle.trace_moment.specs.Kept.{KeptQueue, first_kept}
use Rattle.trace_moment.proofs.Words.{◌≡◌, ◌∙◌, true, is_some, ap, sym, get_or_default, get_or, Taken}
use Rattle.trace_moment.proofs.Steps.{some_copied}
use Rattle.trace_moment.proofs.KeptSteps.{KeepAdded-front, KeepAdded-behind, watched_added}
use Rattle.trace_moment.proofs.elimination.add_with.Goals as goal

pub returns-then-is_front-clause-adds : goal.returns-then-is_front-clause-adds
returns-then-is_front-clause-adds c taken all are distinct last at =
    let next : Taken = record { logged = seen_logged c.args.logged.now; holds = c.args.holds } in
    KeepAdded-front c.args.queues.now c.args.place c.index-queues-place-2.result c.take.new.self c.requires.within
    all are next c.args.numbers.now c.args.floors.now c.requires.numbers c.in_ok-take.ensures.ok
    taken distinct last at c.raise.new.floors c.raise.ensures

pub returns-then-is_front-clause-watched : goal.returns-then-is_front-clause-watched
returns-then-is_front-clause-watched c =
    watched_added c.args.queues.now c.args.place c.index-queues-place-2.result c.take.new.self
    (seen_logged c.args.logged.now) c.args.numbers.now c.args.holds c.in_ok-take.ensures.ok

pub returns-else-is_front-clause-adds : goal.returns-else-is_front-clause-adds
returns-else-is_front-clause-adds c taken all are distinct last at =
    let next : Taken = record { logged = seen_logged c.args.logged.now; holds = c.args.holds } in
    let here : get_or c.args.queues.now c.args.place c.index-queues-place-2.result
    ≡ get_or c.args.queues.now c.args.place c.index-queues-place.result =
    get_or_default c.args.queues.now c.args.place c.index-queues-place-2.result c.index-queues-place.result
    c.requires.within in
    let some : is_some (first_kept (get_or c.args.queues.now c.args.place c.index-queues-place-2.result)) ≡ true =
    ap (λ (queue : KeptQueue). is_some (first_kept queue)) here ∙ ap is_some (sym c.first.ensures)
    ∙ some_copied c.first.result c.if-is_front.ensures in
    KeepAdded-behind c.args.queues.now c.args.place c.index-queues-place-2.result c.take.new.self c.requires.within
    all are next c.args.numbers.now c.args.floors.now c.requires.numbers c.in_ok-take.ensures.ok
    taken distinct last at some

pub returns-else-is_front-clause-watched : goal.returns-else-is_front-clause-watched
returns-else-is_front-clause-watched c =
    watched_added c.args.queues.now c.args.place c.index-queues-place-2.result c.take.new.self
    (seen_logged c.args.logged.now) c.args.numbers.now c.args.holds c.in_ok-take.ensures.ok
