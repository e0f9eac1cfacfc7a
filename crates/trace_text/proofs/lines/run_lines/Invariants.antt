use Rattle.std.proofs.Common.{◌≡◌, ◌++◌, take, codes}
use Rattle.std.specs.List.{flat_map}
use Rattle.std.specs.Prelude.{string_bytes}
use Rattle.trace_detect.specs.Told.{seen_run}
use Rattle.trace_text.specs.Lines.{run_line}
use Rattle.trace_text.proofs.lines.run_lines.Given as goal

abbrev pub invariant-loop-run : goal.invariant-loop-run
invariant-loop-run l = string_bytes l.text
    ≡ codes "definitely\n" ++ flat_map (λ run. run_line (seen_run run)) (take l.run-index l.runs)
