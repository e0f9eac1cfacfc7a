use Rattle.std.proofs.Common.{◌≡◌, false, take}
use Rattle.std.specs.List.{list_any}
use Rattle.trace_detect.specs.Told.{seen_member}
use Rattle.trace_schedule.specs.Schedule.{is_told_as}
use Rattle.trace_schedule.proofs.past.is_told.Given as goal

abbrev pub invariant-loop-member : goal.invariant-loop-member
invariant-loop-member l = list_any (λ member. is_told_as l.event (seen_member member)) (take l.member-index l.members) ≡ false
