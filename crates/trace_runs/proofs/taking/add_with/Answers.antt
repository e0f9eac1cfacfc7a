use Rattle.std.proofs.Common.{◌≡◌, ◌∙◌, ap, sym, subst, get_or}
use Rattle.std.proofs.lemmas.List.{get_or_default}
use Rattle.trace_log.specs.Turns.{seen_logged}
use Rattle.trace_moment.specs.Moment.{Taken}
use Rattle.trace_runs.specs.Kept.{IsSameFirst, KeptRuns, watch_kept, with_next}
use Rattle.trace_runs.proofs.KeptSteps.{settled_but, settled_same, watched_set}
use Rattle.trace_runs.proofs.KeptNext.{waiting_next}
use Rattle.trace_runs.proofs.taking.add_with.Goals as goal

pub returns-then-changes-clause-waiting : goal.returns-then-changes-clause-waiting
returns-then-changes-clause-waiting c taken has at =
    let next : Taken = record { logged = seen_logged c.args.logged.now; holds = c.args.holds } in
    c.eliminate.ensures.waiting _ (waiting_next c.args.queues.now c.args.place c.index-queues-place-2.result
    c.take.new.self c.requires.within taken has next c.args.numbers.now.items at c.in_ok-take.ensures.ok
    c.requires.numbers)

pub returns-then-changes-clause-settled : goal.returns-then-changes-clause-settled
returns-then-changes-clause-settled c settled =
    c.eliminate.ensures.settled (settled_but c.args.queues.now c.args.place c.index-queues-place-2.result
    c.take.new.self c.requires.within settled)

pub returns-then-changes-clause-watched : goal.returns-then-changes-clause-watched
returns-then-changes-clause-watched c =
    c.eliminate.ensures.watched ∙ watched_set c.args.queues.now c.args.place c.index-queues-place-2.result
    c.take.new.self (ap watch_kept c.in_ok-take.ensures.ok)

pub returns-else-changes-clause-waiting : goal.returns-else-changes-clause-waiting
returns-else-changes-clause-waiting c taken has at =
    let next : Taken = record { logged = seen_logged c.args.logged.now; holds = c.args.holds } in
    waiting_next c.args.queues.now c.args.place c.index-queues-place-2.result c.take.new.self c.requires.within taken
    has next c.args.numbers.now.items at c.in_ok-take.ensures.ok c.requires.numbers

pub returns-else-changes-clause-settled : goal.returns-else-changes-clause-settled
returns-else-changes-clause-settled c =
    let here : get_or c.args.queues.now c.args.place c.index-queues-place.result
    ≡ get_or c.args.queues.now c.args.place c.index-queues-place-2.result =
    get_or_default c.args.queues.now c.args.place c.index-queues-place.result c.index-queues-place-2.result
    c.requires.within in
    let same : IsSameFirst (get_or c.args.queues.now c.args.place c.index-queues-place-2.result)
    (with_next (get_or c.args.queues.now c.args.place c.index-queues-place-2.result) (seen_logged c.args.logged.now)
    c.args.numbers.now.items c.args.holds) =
    subst (λ (one : KeptRuns). IsSameFirst one (with_next one (seen_logged c.args.logged.now)
    c.args.numbers.now.items c.args.holds)) here
    (c.changes_first-changes.ensures c.if-changes.false (seen_logged c.args.logged.now) c.args.numbers.now.items) in
    settled_same c.args.queues.now c.args.place c.index-queues-place-2.result c.take.new.self c.requires.within
    (subst (λ (one : KeptRuns). IsSameFirst
    (get_or c.args.queues.now c.args.place c.index-queues-place-2.result) one) (sym c.in_ok-take.ensures.ok) same)

pub returns-else-changes-clause-watched : goal.returns-else-changes-clause-watched
returns-else-changes-clause-watched c =
    watched_set c.args.queues.now c.args.place c.index-queues-place-2.result c.take.new.self
    (ap watch_kept c.in_ok-take.ensures.ok)
