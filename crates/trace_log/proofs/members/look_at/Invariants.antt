use Rattle.trace_log.proofs.Words.{◌≡◌, length, take, drop, members_view, clock_of, seen_clock}
use Rattle.trace_log.specs.Look.{renumbered, AreNoLower}
use Rattle.trace_log.proofs.Clocks.{with_front}
use Rattle.trace_log.proofs.members.look_at.Given as goal

abbrev pub invariant-loop-place : goal.invariant-loop-place
invariant-loop-place l = (length l.next ≡ length l.fn.next)
    × (with_front (renumbered (take l.place (seen_clock l.before)) l.next) (clock_of (members_view (drop l.place
    l.members)))
    ≡ clock_of (members_view l.members))
    × AreNoLower (take l.place (seen_clock l.before)) l.next
