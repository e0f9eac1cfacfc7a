use Rattle.trace_pairs.proofs.Words.{◌≡◌, length, take}
use Rattle.trace_log.specs.Names.{names_in}
use Rattle.trace_log.specs.Seen.{seen_clock}
use Rattle.trace_pairs.proofs.clocks.have_names.Given as goal

abbrev pub invariant-loop-place : goal.invariant-loop-place
invariant-loop-place l = names_in (seen_clock (take l.place l.clock)) ≡ names_in (seen_clock (take l.place l.next))
