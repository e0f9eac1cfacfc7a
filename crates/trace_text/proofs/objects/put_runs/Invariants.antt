use Rattle.std.proofs.Common.{take}
use Rattle.std.specs.List.{flat_map}
use Rattle.trace_detect.specs.Told.{seen_run}
use Rattle.trace_text.specs.Json.{Adds, run_tokens}
use Rattle.trace_text.proofs.objects.put_runs.Given as goal

abbrev pub invariant-loop-run : goal.invariant-loop-run
invariant-loop-run l =
    Adds l.initial.out l.out (flat_map (λ run. run_tokens (seen_run run)) (take l.run-index l.runs))
