use Rattle.trace_asking.proofs.Words.{refl}
use Rattle.trace_asking.specs.declared.asked.Stage.TheVariants as stage
use Rattle.trace_asking.specs.Asking.{IsStanding}
use Rattle.trace_asking.proofs.Questions.{AreAsked-set, answers_known, knows_at}
use Rattle.trace_asking.proofs.asking.Asking.answer_known.Goals as goal

pub found-requires : goal.found-requires
found-requires g c =
    rw (c.index_mut-asked.ensures.value)
    (knows_at g.S.Source.story c.args.self.now c.args.place c.index_mut-asked.result.now c.requires.known
    c.requires.can)

pub returns-clause-answer : goal.returns-clause-answer
returns-clause-answer g c whole questions are =
    answers_known (g.S.Source.story whole) questions c.args.self.now c.args.place c.index_mut-asked.result.now
    (record { seeker = c.index_mut-asked.result.now.seeker; stage = stage.Answered }) c.in_ok-found.field-0
    are c.requires.known c.index_mut-asked.ensures.value c.in_ok-found.ensures refl

pub returns-clause-asking : goal.returns-clause-asking
returns-clause-asking g c whole questions are = record {
  logged = are.logged;
  given = are.given;
  many = are.many;
  asked = AreAsked-set (IsStanding (g.S.Source.story whole) c.args.self.now.source are.logged) questions
      c.args.self.now.asked.items c.args.place
      (record { seeker = c.index_mut-asked.result.now.seeker; stage = stage.Answered }) are.asked
      c.requires.known.within (λ question. tt);
}
