use Rattle.trace_condition.proofs.Handed.{handed_on}
use Rattle.trace_asking.specs.ReadingOn.{Sights, of_story}
use Rattle.trace_asking.proofs.ReadingOn.{sighted}
use Rattle.trace_asking.proofs.asking.Asking.only_sighting.Goals as goal

pub returns-in_err-answer : goal.returns-in_err-answer
returns-in_err-answer g c whole question one =
    handed_on (Sights (of_story (g.S.Source.story whole) question) c.args.most c.only_answer.new.self.source)
    c.from_residual.result c.in_err-answer.field-0.0 c.from_residual.ensures
    (c.in_err-answer.ensures.answer whole question one)

pub returns : goal.returns
returns g c whole question one =
    let are = c.in_ok-answer.ensures.asking whole question one in
    sighted (g.S.Source.story whole) are.logged question c.args.most c.only_answer.new.self.ended
    c.only_answer.new.self.source c.read_on-more.new.self.source c.in_ok-answer.answer c.read_on-more.result are.given
    (c.in_ok-answer.ensures.answer whole question one) (c.read_on-more.ensures whole are.logged are.given)
