use Rattle.std.proofs.Common.{◌≡◌, take, filter, map}
use Rattle.trace_detect.specs.Told.{seen_member}
use Rattle.trace_schedule.specs.Schedule.{is_told}
use Rattle.trace_schedule.proofs.past.told_among.Given as goal

abbrev pub invariant-loop-event : goal.invariant-loop-event
invariant-loop-event l = map (λ one. one.now) l.found.items
    ≡ filter (is_told (map seen_member l.members)) (take l.event-index l.events)
