use Rattle.std.proofs.Common.{subst}
use Rattle.wcp_watch.specs.CheckerEnds.{IsReportTold}
use Rattle.wullaphi.proofs.own_ends.WatchCheckerEnd.report.Goals as goal

pub returns-clause-told : goal.returns-clause-told
returns-clause-told g c =
    subst (λ end. IsReportTold end 0 c.report.result) c.self.view_is
    (c.report.ensures.told _ _ c.self.invariant.holds)
