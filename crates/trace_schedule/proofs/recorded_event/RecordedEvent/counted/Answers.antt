use Rattle.std.proofs.Common.{◌∙◌, ◌-◌, ◌^◌, ap, arith, min, List, take}
use Rattle.std.proofs.lemmas.List.{map_more, take_all}
use Rattle.std.proofs.lemmas.List.Sums.{sum_by_push}
use Rattle.std.specs.Prelude.{sum_by}
use Rattle.trace_log.specs.Clock.{Member}
use Rattle.trace_log.specs.Views.{seen_clock, seen_member}
use Rattle.trace_schedule.proofs.recorded_event.RecordedEvent.counted.Goals as goal

pub loop-member-preserved : goal.loop-member-preserved
loop-member-preserved c =
    let clock = c.clock-member-items.result.now in
    let i = c.loop-member.member-index in
    let before = seen_clock (take i clock) in
    let next = map_more seen_member clock i c.member-item.result c.loop-member-test.true in
    let more = ap (λ (clock : List Member). sum_by (λ one. one.number) clock) next ∙ sum_by_push (λ one. one.number) before _ in
    let is = ap (λ item. (seen_member item).number) c.member-item.is in
    omega (arith, c.loop-member.invariant, more, is)

pub returns : goal.returns
returns c =
    let clock = c.clock-member-items.result.now in
    let all = ap seen_clock (take_all c.loop-member.member-index clock c.loop-member-test.false) ∙ c.clock-member-items.ensures in
    c.loop-member.invariant ∙ ap (λ (clock : List Member). min (sum_by (λ one. one.number) clock) (2 ^ 64 - 1)) all
