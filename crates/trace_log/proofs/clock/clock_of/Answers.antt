use Rattle.trace_log.proofs.Words.{map-append, [], ◌∷◌, ap, members_view, Gives, clock_of, seen_member, seen_clock}
use Rattle.trace_log.proofs.Clocks.{clock_more_at, clock_fails_at, clock_ends, clock_begins}
use Rattle.trace_log.proofs.Handed.{handed_on}
use Rattle.trace_log.proofs.clock.clock_of.Goals as goal

pub loop-member-init : goal.loop-member-init
loop-member-init c =
    clock_begins (seen_clock c.in_ok-clock.clock.items) c.args.members.now (ap seen_clock c.in_ok-clock.ensures.items)

pub returns-in_err-one : goal.returns-in_err-one
returns-in_err-one c =
    let fails = clock_fails_at c.in_err-one.field-0.0
    (seen_clock c.loop-member.clock.items) c.args.members.now c.loop-member.member-index c.member-item.result _
    c.loop-member-test.true c.member-item.is c.loop-member.invariant c.in_err-one.ensures in
    handed_on (λ r. Gives (λ clock. seen_clock clock.items) r (clock_of (members_view c.args.members.now)))
    c.from_residual-in_err-one.result c.in_err-one.field-0.0 c.from_residual-in_err-one.ensures fails

pub loop-member-preserved : goal.loop-member-preserved
loop-member-preserved c =
    let more = clock_more_at (seen_clock c.loop-member.clock.items) c.args.members.now c.loop-member.member-index
    c.member-item.result (seen_member c.in_ok-one.one) _ c.loop-member-test.true c.member-item.is
    c.loop-member.invariant c.in_ok-one.ensures in
    rw (c.in_ok-push.ensures.items, map-append seen_member c.loop-member.clock.items (c.in_ok-one.one ∷ [])) more

pub returns : goal.returns
returns c = clock_ends (seen_clock c.loop-member.clock.items) c.args.members.now c.loop-member.member-index _
    c.loop-member-test.false c.loop-member.invariant
