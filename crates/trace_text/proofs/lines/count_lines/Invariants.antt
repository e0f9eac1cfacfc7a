use Rattle.std.proofs.Common.{◌≡◌, ◌++◌, take, codes}
use Rattle.std.specs.List.{flat_map}
use Rattle.std.specs.Prelude.{string_bytes}
use Rattle.trace_detect.specs.Told.{seen_count}
use Rattle.trace_text.specs.Lines.{host_line}
use Rattle.trace_text.proofs.lines.count_lines.Given as goal

abbrev pub invariant-loop-count : goal.invariant-loop-count
invariant-loop-count l = string_bytes l.text
    ≡ codes "none\n" ++ flat_map (λ count. host_line (seen_count count)) (take l.count-index l.counts)
