use Rattle.std.proofs.Common.{◌≡◌, ◌-◌, ◌^◌, min, take}
use Rattle.std.specs.Prelude.{sum_by}
use Rattle.trace_log.specs.Views.{seen_clock}
use Rattle.trace_schedule.proofs.recorded_event.RecordedEvent.counted.Given as goal

abbrev pub invariant-loop-member : goal.invariant-loop-member
invariant-loop-member l =
    l.counted ≡ min (sum_by (λ one. one.number) (seen_clock (take l.member-index l.member-items))) (2 ^ 64 - 1)
