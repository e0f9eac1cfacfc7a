use Rattle.trace_log.proofs.Words.{subst, List, Member}
use Rattle.trace_log.specs.Hosts.{KeepsClock, SpellsNext}
use Rattle.trace_log.specs.PlainEvents.{clock_beside}
use Rattle.trace_log.proofs.PlainEvents.{event_looked, some_map}
use Rattle.trace_log.proofs.line.plain_kept.Goals as goal

pub returns-clause-some : goal.returns-clause-some
returns-clause-some c =
    let event = c.in-Some.event in
    let old = c.args.hosts.now in
    let new = c.follow.new.self in
    some_map c.follow.result (λ number (given : (clock : List Member)
    × SpellsNext old event.host.now (clock_beside event.host.now event.text.now event.line.now) clock
    × KeepsClock old event.host.now clock number new) earlier read kept.
    event_looked old new c.args.line.now event.host.now event.text.now _ number given.0 earlier read kept
    (subst (λ l. SpellsNext old event.host.now (clock_beside event.host.now event.text.now l) given.0) c.in-Some.ensures
    given.1) given.2 c.in_ok-put.ensures) c.follow.ensures.some
