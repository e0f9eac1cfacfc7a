use Rattle.std.proofs.Common.{◌≡◌, false, take}
use Rattle.std.specs.List.{list_any}
use Rattle.trace_schedule.specs.Schedule.{is_counted_by}
use Rattle.trace_schedule.proofs.past.led_to.Given as goal

abbrev pub invariant-loop-end : goal.invariant-loop-end
invariant-loop-end l = list_any (λ end. is_counted_by l.event end.now) (take l.end-index l.ends) ≡ false
