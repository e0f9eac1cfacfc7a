use Rattle.wcp_single.proofs.EndedRun.{IsWorkloadOutcome-end}
use Rattle.wcp_single.proofs.workload_run.WorkloadRun.outcome.Goals as goal

pub returns : goal.returns
returns c = λ n watched flag tasks within ending.
    IsWorkloadOutcome-end n watched flag tasks c.args.self.now.processes.items c.args.self.now.checker within ending
    (record { report = c.report.result; tallies = c.tallies.result })
    (c.report.ensures.exact ending.has_taken.not_starved) c.tallies.ensures.processes c.tallies.ensures.emitted
    c.tallies.ensures.taken
