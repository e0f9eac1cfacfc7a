use Rattle.trace_detect.proofs.Words.{◌≡◌, ◌++◌, ℕ, drop, map}
use Rattle.trace_definitely.specs.Logs.{LogRun}
use Rattle.trace_runs.specs.Keeping.{KeepRuns}
use Rattle.trace_detect.specs.Definite.{runs_from}
use Rattle.trace_detect.specs.Told.{seen_run}
use Rattle.trace_detect.proofs.told.runs_of.Given as goal

abbrev pub invariant-loop-place : goal.invariant-loop-place
invariant-loop-place l = (runs : ℕ → LogRun) → KeepRuns l.search.queues.items runs
    → map seen_run l.runs.items ++ runs_from l.place (drop l.place l.conditions) runs
    ≡ runs_from 0 l.conditions runs
