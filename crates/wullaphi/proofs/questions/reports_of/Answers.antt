use Rattle.std.proofs.Common.{◌∷◌, [], ◌++◌, List, Some, ◌≡◌, slice_get, length, sym, ap, subst, ◌∙◌, arith, ⊎_elim}
use Rattle.std.proofs.lemmas.List.{length-append}
use Rattle.wcp_model.specs.declared.outcome.Report.{Report}
use Rattle.wcp_watch.specs.CheckerEnds.{IsReportTold}
use Rattle.wullaphi.proofs.Asked.{of_more}
use Rattle.wullaphi.proofs.questions.reports_of.Goals as goal

pub loop-question-preserved : goal.loop-question-preserved
loop-question-preserved c =
    let old = c.loop-question.invariant in
    let end = c.args.checker.now in
    let reports = c.loop-question.reports.items in
    let told = c.in-Some.ensures.told c.requires.0 c.requires.1 c.requires.2 in
    let pushed = c.in_ok-push.ensures.items in
    record {
      as_many = omega (arith, ap length pushed, length-append reports (c.in-Some.report ∷ []), old.as_many);
      each = λ k report at.
          of_more (λ n one. IsReportTold end n one) reports c.in-Some.report k report
          (ap (λ (all : List Report). slice_get all k) (sym pushed) ∙ at) old.each
          (subst (λ n. IsReportTold end n c.in-Some.report) (sym old.as_many) told);
    }
