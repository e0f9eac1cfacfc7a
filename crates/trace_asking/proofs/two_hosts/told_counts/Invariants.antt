use Rattle.std.proofs.Common.{◌≡◌, take, map}
use Rattle.trace_detect.specs.Told.{seen_count}
use Rattle.trace_asking.specs.TwoTold.{told_count}
use Rattle.trace_asking.proofs.two_hosts.told_counts.Given as goal

abbrev pub invariant-loop-count : goal.invariant-loop-count
invariant-loop-count l = map seen_count l.told.items ≡ map told_count (take l.count-index l.counts)
