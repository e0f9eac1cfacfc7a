use Rattle.trace_asking.proofs.Words.{refl}
use Rattle.trace_asking.specs.declared.asked.Stage.TheVariants as stage
use Rattle.trace_asking.specs.Asking.{IsStanding}
use Rattle.trace_asking.proofs.Questions.{AreAsked-set, answers_at_end, seeks_at}
use Rattle.trace_asking.proofs.asking.Asking.answer_last.Goals as goal

pub last-answer-requires : goal.last-answer-requires
last-answer-requires g c =
    rw (c.index_mut-asked.ensures.value)
    (seeks_at g.S.Source.story c.args.self.now c.args.place c.index_mut-asked.result.now c.requires.open
    c.requires.can)

pub returns-clause-answer : goal.returns-clause-answer
returns-clause-answer g c whole questions are =
    answers_at_end (g.S.Source.story whole) questions c.args.self.now c.args.place c.index_mut-asked.result.now
    (record { seeker = c.last-answer.new.self; stage = stage.Answered }) c.last-answer.result
    are c.requires.open c.requires.ended c.index_mut-asked.ensures.value c.last-answer.ensures refl

pub returns-clause-asking : goal.returns-clause-asking
returns-clause-asking g c whole questions are = record {
  logged = are.logged;
  given = are.given;
  many = are.many;
  asked = AreAsked-set (IsStanding (g.S.Source.story whole) c.args.self.now.source are.logged) questions
      c.args.self.now.asked.items c.args.place
      (record { seeker = c.last-answer.new.self; stage = stage.Answered }) are.asked c.requires.open.within
      (λ question. tt);
}
