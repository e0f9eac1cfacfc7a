use Rattle.trace_log.proofs.Words.{◌≡◌, drop, members_view, clock_of, seen_clock}
use Rattle.trace_log.proofs.Clocks.{with_front}
use Rattle.trace_log.proofs.clock.clock_of.Given as goal

abbrev pub invariant-loop-member : goal.invariant-loop-member
invariant-loop-member l =
    with_front (seen_clock l.clock.items) (clock_of (members_view (drop l.member-index l.members)))
    ≡ clock_of (members_view l.members)
