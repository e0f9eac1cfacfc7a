use Rattle.trace_asking.proofs.Words.{◌∙◌, subst}
use Rattle.trace_asking.specs.declared.asked.Stage.TheVariants as stage
use Rattle.trace_asking.specs.Asking.{NoneAt}
use Rattle.trace_asking.proofs.Questions.{all_answered, hands_next}
use Rattle.trace_asking.proofs.asking.Asking.next_answer.Goals as goal

pub returns-in-Some-clause-answer : goal.returns-in-Some-clause-answer
returns-in-Some-clause-answer g c whole questions are =
    rw (← c.loop.invariant.answered)
    (c.in_ok-answer_known.ensures.answer whole questions (c.loop.invariant.asking whole questions are))

pub returns-in_default-first_at-clause-answer : goal.returns-in_default-first_at-clause-answer
returns-in_default-first_at-clause-answer g c whole questions are = (
  c.loop.invariant.answered,
  all_answered c.loop.self.asked.items
      (subst (NoneAt stage.Known) c.deref.ensures.value c.in_default.ensures.none)
      (subst (NoneAt stage.Open) c.deref-in-loop.ensures.value c.in_default-first_at.ensures.none),
)

pub returns-then-self-clause-answer : goal.returns-then-self-clause-answer
returns-then-self-clause-answer g c whole questions are =
    rw (← c.loop.invariant.answered)
    (c.answer_last.ensures.answer whole questions (c.loop.invariant.asking whole questions are))

pub returns-in_err-go_on-clause-answer : goal.returns-in_err-go_on-clause-answer
returns-in_err-go_on-clause-answer g c whole questions are =
    rw (← c.loop.invariant.answered)
    (hands_next (g.S.Source.story whole) questions _ _ _ _ _ c.from_residual-in_err-go_on.ensures
    (c.in_err-go_on.ensures.reads whole questions (c.loop.invariant.asking whole questions are)))

pub loop-preserved : goal.loop-preserved
loop-preserved g c =
    let old = c.loop.invariant in
    let can = old.can in
    let reads = c.in_ok-go_on.ensures.reads can.whole can.questions can.is in
    record {
      can = record { whole = can.whole; questions = can.questions; is = reads.0 };
      asking = λ whole questions are.
          (c.in_ok-go_on.ensures.reads whole questions (old.asking whole questions are)).0;
      answered = reads.1 ∙ old.answered;
    }
