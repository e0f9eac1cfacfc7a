use Rattle.std.proofs.Common.{subst, arith, inl, inr}
use Rattle.std.proofs.lemmas.Bool.{cases_eq}
use Rattle.std.proofs.lemmas.List.{get_or_default}
use Rattle.wcp_queue.specs.Checker.{CheckerState}
use Rattle.wcp_queue.specs.Panel.{no_question}
use Rattle.wcp_c.specs.Tags.{IsSpent}
use Rattle.wcp_c.proofs.spent.is_spent_in.Goals as goal

pub returns : goal.returns
returns c = λ _ k d within. subst (λ (checker : CheckerState). IsSpent checker c.args.tagged.now)
    (get_or_default c.args.panel.now k no_question d within)
    (c.loop-question.invariant k (omega (
      arith,
      within,
      c.questions-question-end.ensures.value,
      c.loop-question-test.false,
    )))

pub loop-question-preserved : goal.loop-question-preserved
loop-question-preserved c = λ k under. elim (cases_eq k c.loop-question.question) [
  | inl same ↦ rw same (subst (λ (checker : CheckerState). IsSpent checker c.args.tagged.now) c.in-Some.ensures.value
      (c.is_spent.ensures (grind arith)))
  | inr other ↦ c.loop-question.invariant k (omega (arith, under, other))
]
