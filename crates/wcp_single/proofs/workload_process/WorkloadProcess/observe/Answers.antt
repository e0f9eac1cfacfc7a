use Rattle.std.proofs.lemmas.Result.{on_ok_weaker}
use Rattle.wcp_single.proofs.RunningProcesses.{may_take_observed, feeds_observed, feeds_nothing}
use Rattle.wcp_single.proofs.workload_process.WorkloadProcess.observe.Goals as goal

pub hand_over-requires : goal.hand_over-requires
hand_over-requires c =
    may_take_observed c.in-Ok.emitted c.args.self.now c.observe.new.self c.args.checker.now c.requires
    c.in-Ok.ensures.pending

pub returns-then-emitted-clause-feeds : goal.returns-then-emitted-clause-feeds
returns-then-emitted-clause-feeds c =
    on_ok_weaker c.hand_over.result
    (λ takes. feeds_observed c.args.holds c.in-Ok.emitted c.args.self.now c.observe.new.self c.args.checker.now
    c.hand_over.new.checker c.in-Ok.ensures.emits c.in-Ok.ensures.pending takes c.hand_over.ensures.processes
    c.hand_over.ensures.watched)
    c.hand_over.ensures.taken

pub returns-else-emitted-clause-feeds : goal.returns-else-emitted-clause-feeds
returns-else-emitted-clause-feeds c =
    feeds_nothing c.args.holds c.args.self.now c.observe.new.self c.args.checker.now
    (rw c.if-emitted.false at c.in-Ok.ensures.emits) (rw c.if-emitted.false at c.in-Ok.ensures.pending)
