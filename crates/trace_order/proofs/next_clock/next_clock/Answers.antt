use Rattle.std.proofs.Common.{◌∙◌, ◌+◌, ◌<◌, length, arith, ap}
use Rattle.std.proofs.lemmas.List.{get_or_default}
use Rattle.trace_order.proofs.Numbers.{counted_up, own_number}
use Rattle.trace_order.proofs.next_clock.next_clock.Goals as goal

pub returns-then-index-ge-MOST_NUMBER-clause-many : goal.returns-then-index-ge-MOST_NUMBER-clause-many
returns-then-index-ge-MOST_NUMBER-clause-many c = λ at is.
    let clock = c.loop-clock.clock.items in
    let host = c.args.host in
    let within : host < length clock = omega (arith, c.loop-clock-test.false, c.len.ensures) in
    let read = c.index.ensures ∙ get_or_default clock host c.index.result.now 0 within in
    let greatest = c.loop-clock.invariant.numbers host ∙ c.in_ok-clock.ensures.numbers host in
    let own = own_number c.args.before.now c.args.sender.now host in
    (cc, omega (arith, c.if-index-ge-MOST_NUMBER.true, read, greatest, own))

pub returns-clause-clock : goal.returns-clause-clock
returns-clause-clock c =
    let clock = c.loop-clock.clock.items in
    let host = c.args.host in
    let within : host < length clock = omega (arith, c.loop-clock-test.false, c.len.ensures) in
    let read = c.index_mut.ensures.value ∙ get_or_default clock host c.index_mut.result.now 0 within in
    counted_up c.args.before.now c.args.sender.now clock host _ within
    (omega (arith, within, c.loop-clock.invariant.least, c.loop-clock.invariant.most, c.in_ok-clock.ensures.hosts))
    (λ i. c.loop-clock.invariant.numbers i ∙ c.in_ok-clock.ensures.numbers i) (ap (λ n. n + 1) read)
