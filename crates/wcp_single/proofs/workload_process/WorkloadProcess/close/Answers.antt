use Rattle.std.proofs.lemmas.Result.{on_ok_weaker}
use Rattle.wcp_single.proofs.RunningProcesses.{may_take_closed, feeds_closed}
use Rattle.wcp_single.proofs.workload_process.WorkloadProcess.close.Goals as goal

pub hand_over-requires : goal.hand_over-requires
hand_over-requires c =
    may_take_closed c.args.self.now c.close.new.self c.args.checker.now c.requires c.in-Ok.ensures.pending

pub returns-clause-feeds : goal.returns-clause-feeds
returns-clause-feeds c =
    on_ok_weaker c.hand_over.result
    (λ takes. feeds_closed c.args.self.now c.close.new.self c.args.checker.now c.hand_over.new.checker
    c.in-Ok.ensures.pending takes c.hand_over.ensures.processes c.hand_over.ensures.watched)
    c.hand_over.ensures.taken
