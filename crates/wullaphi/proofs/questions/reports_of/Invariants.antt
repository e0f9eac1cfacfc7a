use Rattle.std.proofs.Common.{◌≡◌, ℕ, Some, length, slice_get}
use Rattle.wcp_model.specs.declared.outcome.Report.{Report}
use Rattle.wcp_watch.specs.CheckerEnds.{IsReportTold}
use Rattle.wullaphi.proofs.questions.reports_of.Given as goal

abbrev pub invariant-loop-question : goal.invariant-loop-question
invariant-loop-question l = record {
  as_many : length l.reports.items ≡ l.question;
  each : (k : ℕ) (report : Report) → slice_get l.reports.items k ≡ Some report → IsReportTold l.checker k report;
}
