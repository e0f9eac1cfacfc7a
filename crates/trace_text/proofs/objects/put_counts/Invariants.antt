use Rattle.std.proofs.Common.{take}
use Rattle.std.specs.List.{flat_map}
use Rattle.trace_detect.specs.Told.{seen_count}
use Rattle.trace_text.specs.Json.{Adds, host_tokens}
use Rattle.trace_text.proofs.objects.put_counts.Given as goal

abbrev pub invariant-loop-count : goal.invariant-loop-count
invariant-loop-count l =
    Adds l.initial.out l.out (flat_map (λ count. host_tokens (seen_count count)) (take l.count-index l.counts))
