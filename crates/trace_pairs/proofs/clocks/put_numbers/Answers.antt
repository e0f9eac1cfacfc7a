use Rattle.trace_pairs.proofs.Words.{◌≡◌, ◌∙◌, ◌<◌, arith, length, length-set}
use Rattle.trace_pairs.proofs.Clocking.{clock_put, names_put}
use Rattle.trace_pairs.proofs.clocks.put_numbers.Goals as goal

pub loop-place-preserved : goal.loop-place-preserved
loop-place-preserved c =
    let clock = c.loop-place.clock in
    let next = c.args.next.now in
    let i = c.loop-place.place in
    let d = c.index-clock-place.result in
    let e = c.index-next-place.result in
    let within : i < length clock = omega (arith, c.loop-place-test.true, c.loop-place.auto.clock) in
    record {
      many = length-set clock i _ ∙ c.loop-place.invariant.many;
      names = names_put clock next i d e within c.loop-place.invariant.many c.loop-place.invariant.names;
      same = clock_put clock next i d e within c.loop-place.invariant.many c.loop-place.invariant.names
          c.loop-place.invariant.same;
    }
