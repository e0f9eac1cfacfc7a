use Rattle.wcp_worker.proofs.Words.{◌≡◌, map, All, IsIdle}
use Rattle.wcp_worker.proofs.worker_opening.idle_workers.Given as goal

abbrev pub invariant-loop-probe : goal.invariant-loop-probe
invariant-loop-probe l =
    record {
      probes : map (λ worker. worker.player.probe) l.workers.items ≡ l.yielded;
      idle : All IsIdle l.workers.items;
    }
