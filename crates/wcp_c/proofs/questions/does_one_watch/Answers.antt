use Rattle.std.proofs.Common.{◌∙◌, ap, sym, arith}
use Rattle.std.specs.FinSet as set
use Rattle.std.proofs.lemmas.List.{get_or_default}
use Rattle.std.proofs.lemmas.List.Folds.{list_any_none}
use Rattle.wcp_queue.specs.Checker.{CheckerState}
use Rattle.wcp_queue.specs.Panel.{no_question}
use Rattle.wcp_c.proofs.questions.does_one_watch.Goals as goal

pub returns : goal.returns
returns c = sym (list_any_none (λ (checker : CheckerState). set.contains checker.watched c.args.p) c.args.panel.now
    (λ k d within. ap (λ (checker : CheckerState). set.contains checker.watched c.args.p)
    (get_or_default c.args.panel.now k d no_question within)
    ∙ c.loop-question.invariant k (omega (
      arith,
      within,
      c.questions-question-end.ensures.value,
      c.loop-question-test.false,
    ))))
