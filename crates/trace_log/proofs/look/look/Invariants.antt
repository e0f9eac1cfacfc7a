use Rattle.trace_log.proofs.Words.{◌≡◌, take, length, seen_clock}
use Rattle.trace_log.specs.Look.{AreNoLower, lead_at}
use Rattle.trace_log.proofs.Passing.{HasPassed}
use Rattle.trace_log.proofs.look.look.Given as goal

abbrev pub invariant-loop-place : goal.invariant-loop-place
invariant-loop-place l = (length l.next ≡ length l.fn.next)
    × HasPassed (take l.place (seen_clock l.before)) l.next (lead_at l.place) l.fn.text l.rest
    × AreNoLower (take l.place (seen_clock l.before)) l.next
