use Rattle.std.proofs.Common.{length, max, slice_index, arith}
use Rattle.trace_order.proofs.Numbers.{numbers_are}
use Rattle.trace_order.specs.Clocks.{greatest}
use Rattle.trace_order.proofs.next_clock.greatest.Goals as goal

pub returns-clause-clock : goal.returns-clause-clock
unfolding greatest
returns-clause-clock c =
    let before = c.args.before.now in
    let sender = c.args.sender.now in
    numbers_are c.loop-i.clock.items (λ i. max (slice_index before i) (slice_index sender i)) (max (length before) (length sender))
    (omega arith) (λ i within. c.loop-i.invariant.numbers i (omega (arith, within, c.loop-i.invariant.length_is)))
