use Rattle.trace_pages.proofs.Sighted.{shown_of, unknown_of}
use Rattle.trace_pages.proofs.showing.shown.Goals as goal

pub returns-in-Ok-clause-answer : goal.returns-in-Ok-clause-answer
returns-in-Ok-clause-answer g c =
    shown_of c.args.options.now.svg c.args.form c.args.question.now
    (g.I.Read.remaining c.args.input.now) (g.I.Read.remaining c.ask_on-sighted.new.input) c.in-Ok.sighting
    c.sighted_answer.result c.in-Ok.ensures c.sighted_answer.ensures.shows c.sighted_answer.ensures.status

pub returns-in-Err-clause-answer : goal.returns-in-Err-clause-answer
returns-in-Err-clause-answer g c =
    unknown_of c.args.options.now.svg c.args.form c.args.question.now
    (g.I.Read.remaining c.args.input.now) (g.I.Read.remaining c.ask_on-sighted.new.input) c.in-Err.fault
    c.unknown_answer.result c.in-Err.ensures c.unknown_answer.ensures.shows c.unknown_answer.ensures.status
