use Rattle.std.proofs.Common.{◌≡◌, take}
use Rattle.trace_log.specs.Views.{seen_clock}
use Rattle.trace_schedule.proofs.recorded_event.copied.Given as goal

abbrev pub invariant-loop-member : goal.invariant-loop-member
invariant-loop-member l = seen_clock l.copy.items ≡ seen_clock (take l.member-index l.clock)
