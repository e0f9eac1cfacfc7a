use Rattle.std.proofs.Common.{◌≡◌, take, filter, map}
use Rattle.trace_schedule.specs.Schedule.{led_to}
use Rattle.trace_schedule.proofs.past.past_of.Given as goal

abbrev pub invariant-loop-event : goal.invariant-loop-event
invariant-loop-event l = map (λ one. one.now) l.past.items
    ≡ filter (led_to (map (λ one. one.now) l.ends)) (take l.event-index l.events)
