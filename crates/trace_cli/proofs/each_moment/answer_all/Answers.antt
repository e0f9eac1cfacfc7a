use Rattle.std.proofs.Common.{◌∙◌, List, ap, subst, sym}
use Rattle.trace_condition.specs.declared.condition.Condition.{Condition}
use Rattle.trace_condition.specs.Asked.{conditions_of}
use Rattle.trace_cli.specs.EachMoment.{AllTold, HasToldAll}
use Rattle.trace_cli.specs.Statuses.{status_after}
use Rattle.trace_cli.proofs.each_moment.answer_all.Goals as goal

pub returns-clause-answers : goal.returns-clause-answers
returns-clause-answers g c =
    let read = c.in-Ok.ensures.read in
    AllTold c.in-Ok.conditions.items c.requires (ap conditions_of (sym c.condition_words.ensures) ∙ read.0) read.1
    (subst (λ (those : List Condition). HasToldAll c.args.options.now.form c.args.options.now.format those (g.I.Read.remaining c.args.input.now)
    (g.O.Write.contents c.args.output.now) (g.O.Write.contents c.tell_each.new.output)
    (status_after c.tell_each.result)) c.deref.ensures.value c.tell_each.ensures.told)
