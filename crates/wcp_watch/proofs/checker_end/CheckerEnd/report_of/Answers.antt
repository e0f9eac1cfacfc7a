use Rattle.wcp_watch.proofs.Words.{subst, length, CheckerState}
use Rattle.wcp_watch.proofs.ToldReports.{Tells, is_within, told_at}
use Rattle.wcp_watch.proofs.checker_end.CheckerEnd.report_of.Goals as goal

pub returns-in-Some-clause-told : goal.returns-in-Some-clause-told
returns-in-Some-clause-told c = λ inbox questions of.
    let told = c.report.ensures in
    told_at c.args.self.now c.args.question c.report.result of
    (is_within c.question.result c.in-Some.checker c.args.question (length c.args.self.now.panel) c.in-Some.is
    c.question.ensures.none)
    (subst (λ (checker : CheckerState). Tells checker c.report.result) c.in-Some.ensures.value (record {
      value = told.value;
      any_clocks = told.any_clocks;
      exact = told.exact;
      starved = told.starved;
      lost = told.lost;
    }))
