use Rattle.wcp_worker.specs.declared.worker.Worker.{Worker}
use Rattle.wcp_worker.specs.Played.{IsFreshPlayer}

-- A worker that may run.
abbrev pub IsReadyWorker : Worker → Type 0
IsReadyWorker worker = IsFreshPlayer worker.player
