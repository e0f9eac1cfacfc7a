-- What the values of the code stand for: a run that is told.
use Rattle.trace_runs.specs.declared.kept.KeptRun.{KeptRun}
use Rattle.trace_runs.specs.Kept.{ToldRun}

-- A run that is told.
abbrev pub seen_run : KeptRun → ToldRun
seen_run run = record { line = run.line; text = run.text.now; over = run.over }
