use Rattle.trace_pairs.proofs.Words.{◌≡◌, take}
use Rattle.trace_log.specs.Seen.{seen_clock}
use Rattle.trace_pairs.proofs.clocks.clock_of.Given as goal

abbrev pub invariant-loop-member : goal.invariant-loop-member
invariant-loop-member l = seen_clock l.members.items ≡ seen_clock (take l.member-index l.clock)
