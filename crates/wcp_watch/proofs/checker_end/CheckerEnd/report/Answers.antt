use Rattle.wcp_watch.proofs.Words.{subst, CheckerState}
use Rattle.wcp_watch.proofs.ToldReports.{Tells, told_at}
use Rattle.wcp_watch.proofs.checker_end.CheckerEnd.report.Goals as goal

pub returns-clause-told : goal.returns-clause-told
returns-clause-told c = λ inbox questions of.
    let told = c.report.ensures in
    told_at c.args.self.now 0 c.report.result of of.some
    (subst (λ (checker : CheckerState). Tells checker c.report.result) c.first.ensures.value (record {
      value = told.value;
      any_clocks = told.any_clocks;
      exact = told.exact;
      starved = told.starved;
      lost = told.lost;
    }))
