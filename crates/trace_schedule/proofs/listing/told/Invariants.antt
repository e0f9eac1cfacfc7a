use Rattle.std.proofs.Common.{◌≡◌, take, map}
use Rattle.trace_detect.specs.Told.{seen_member}
use Rattle.trace_schedule.specs.InOrder.{told_event}
use Rattle.trace_schedule.proofs.listing.told.Given as goal

abbrev pub invariant-loop-event : goal.invariant-loop-event
invariant-loop-event l = map seen_member l.listed.items ≡ map (λ one. told_event one.now) (take l.event-index l.order)
