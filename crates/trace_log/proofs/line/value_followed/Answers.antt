use Rattle.std.specs.Prelude.{IfSome}
use Rattle.json.proofs.Trees.{view-Object}
use Rattle.trace_log.proofs.Words.{◌∙◌, ap, sym, subst, List, Some, Member, value_view, members_view, clock_of}
use Rattle.trace_log.specs.Event.{clock_in}
use Rattle.trace_log.specs.Hosts.{KeepsClock, SpellsNext}
use Rattle.trace_log.proofs.line.value_followed.Goals as goal

pub returns-in-Object-clause-some : goal.returns-in-Object-clause-some
returns-in-Object-clause-some c =
    let is = ap value_view c.in-Object.is ∙ view-Object c.in-Object.members in
    let same = ap (λ json. clock_in (Some json)) is
    ∙ ap (λ l. clock_of (members_view l)) (sym c.as_slice.ensures.value) in
    subst (λ judged. IfSome c.follow.result (λ number. (clock : List Member)
    × SpellsNext c.args.hosts.now c.args.host.now judged clock
    × KeepsClock c.args.hosts.now c.args.host.now clock number c.follow.new.self)) (sym same) c.follow.ensures.some
