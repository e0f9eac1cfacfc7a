use Rattle.std.proofs.Common.{◌≡◌, Bool, true, ap, sym, ◌∙◌}
use Rattle.std.proofs.lemmas.List.{take_all}
use Rattle.std.proofs.lemmas.List.Folds.{list_any_at}
use Rattle.std.specs.List.{list_any}
use Rattle.trace_detect.specs.declared.answer.MomentMember.{MomentMember}
use Rattle.trace_detect.specs.Told.{seen_member}
use Rattle.trace_schedule.specs.Schedule.{is_told_as}
use Rattle.trace_schedule.proofs.Lists.{any-said}
use Rattle.trace_schedule.proofs.past.is_told.Goals as goal

pub returns-then-is_told_as : goal.returns-then-is_told_as
returns-then-is_told_as c =
    let event = c.args.event.now in
    let members = c.args.members.now in
    let tells : MomentMember → Bool = λ member. is_told_as event (seen_member member) in
    let it : tells c.member-item.result ≡ true = sym c.is_told_as.ensures ∙ c.if-is_told_as.true in
    let is = ap tells (sym c.member-item.is) ∙ it in
    sym (sym (any-said seen_member (is_told_as event) members)
    ∙ list_any_at tells members c.loop-member.member-index c.member-item.result c.loop-member-test.true is)

pub returns : goal.returns
returns c =
    let event = c.args.event.now in
    let members = c.args.members.now in
    let tells : MomentMember → Bool = λ member. is_told_as event (seen_member member) in
    sym (sym (any-said seen_member (is_told_as event) members)
    ∙ ap (λ all. list_any tells all) (sym (take_all c.loop-member.member-index members c.loop-member-test.false))
    ∙ c.loop-member.invariant)
