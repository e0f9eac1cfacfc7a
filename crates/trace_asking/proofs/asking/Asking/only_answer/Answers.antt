use Rattle.trace_asking.proofs.Words.{◌∷◌, []}
use Rattle.trace_condition.proofs.Handed.{handed_on}
use Rattle.trace_asking.specs.Answered.{AnswersOf}
use Rattle.trace_asking.proofs.Bridge.{stopped_of}
use Rattle.trace_asking.proofs.OneAsked.{alone_answered, alone_stopped, some_answer}
use Rattle.trace_asking.proofs.asking.Asking.only_answer.Goals as goal

pub returns-in_err-told-clause-answer : goal.returns-in_err-told-clause-answer
returns-in_err-told-clause-answer g c whole question one =
    let story = g.S.Source.story whole in
    let why = c.in_err-told.field-0.0 in
    let source = c.next_answer.new.self.source in
    handed_on (AnswersOf story question source) c.from_residual.result why c.from_residual.ensures
    (stopped_of story question source why
    (alone_stopped story question c.args.self.now one.is one.unanswered why
    (c.in_err-told.ensures.answer whole (question ∷ []) one.is)))

pub unreachable-requires : goal.unreachable-requires
unreachable-requires g c =
    let given = c.requires in
    some_answer (g.S.Source.story given.whole) given.question c.args.self.now given.is.is given.is.unanswered
    c.next_answer.new.self.source _
    (rw c.in-None.is at (c.in_ok-told.ensures.answer given.whole (given.question ∷ []) given.is.is))

pub returns-clause-answer : goal.returns-clause-answer
returns-clause-answer g c whole question one =
    alone_answered (g.S.Source.story whole) question c.args.self.now one.is one.unanswered
    c.next_answer.new.self.source c.in-Some.told _
    (rw c.in-Some.is at (c.in_ok-told.ensures.answer whole (question ∷ []) one.is))
