use Rattle.std.proofs.Common.{◌≡◌, Bool, true, ap, sym, ◌∙◌}
use Rattle.std.proofs.lemmas.List.{take_all}
use Rattle.std.proofs.lemmas.List.Folds.{list_any_at}
use Rattle.std.specs.Borrow.{Bor}
use Rattle.std.specs.List.{list_any}
use Rattle.trace_log.specs.Log.{Logged}
use Rattle.trace_schedule.specs.Schedule.{is_counted_by}
use Rattle.trace_schedule.proofs.Lists.{any-said}
use Rattle.trace_schedule.proofs.past.led_to.Goals as goal

pub returns-then-is_counted_by : goal.returns-then-is_counted_by
returns-then-is_counted_by c =
    let event = c.args.event.now in
    let ends = c.args.ends.now in
    let counts : Bor Logged → Bool = λ end. is_counted_by event end.now in
    let it : is_counted_by event c.end-item.result.now ≡ true = sym c.is_counted_by.ensures ∙ c.if-is_counted_by.true in
    let is = ap counts (sym c.end-item.is) ∙ it in
    sym (sym (any-said (λ end. end.now) (is_counted_by event) ends)
    ∙ list_any_at counts ends c.loop-end.end-index c.end-item.result c.loop-end-test.true is)

pub returns : goal.returns
returns c =
    let event = c.args.event.now in
    let ends = c.args.ends.now in
    let counts : Bor Logged → Bool = λ end. is_counted_by event end.now in
    sym (sym (any-said (λ end. end.now) (is_counted_by event) ends)
    ∙ ap (λ all. list_any counts all) (sym (take_all c.loop-end.end-index ends c.loop-end-test.false))
    ∙ c.loop-end.invariant)
