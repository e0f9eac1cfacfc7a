use Rattle.wcp_single.proofs.Words.{ap, WorkloadProcess}
use Rattle.wcp_single.proofs.EndedRun.{caught_up_last, ends_next}
use Rattle.wcp_single.proofs.workload_run.WorkloadRun.close.Goals as goal

pub close-requires : goal.close-requires
close-requires c =
    let (n, watched, flag, tasks, within, ending) = c.requires.next in
    caught_up_last n watched flag tasks c.args.p within c.args.self.now.processes.items c.args.self.now.checker ending
    c.index_mut.result.now c.index_mut.ensures.value

pub returns : goal.returns
returns c = λ n watched flag tasks within ending.
    ends_next n watched flag tasks c.args.p within c.args.self.now.processes.items c.args.self.now.checker ending
    c.index_mut.result.now c.index_mut.ensures.value c.close.new.self c.close.new.checker
    c.in_ok-close.ensures.feeds (ap (λ (process : WorkloadProcess). process.probe.emitted) c.in_ok-close.ensures.closed)
