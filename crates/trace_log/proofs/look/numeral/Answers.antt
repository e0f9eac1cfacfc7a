use Rattle.trace_log.proofs.Words.{arith}
use Rattle.trace_log.proofs.Passing.{digits_more, value_more, digits_are}
use Rattle.trace_log.proofs.look.numeral.Goals as goal

pub returns-in_default-clause-digits : goal.returns-in_default-clause-digits
returns-in_default-clause-digits c =
    digits_are c.args.text.now c.loop-place.place c.loop-place.number (omega arith) (omega arith)
    c.loop-place.invariant.0 c.loop-place.invariant.1 c.loop-place.invariant.2
    (c.has_zero_before.ensures c.if-has_zero_before.false)

pub loop-place-preserved : goal.loop-place-preserved
loop-place-preserved c =
    let digit = c.in-Some.ensures in
    let within = c.loop-place-test.true in
    let value = value_more c.args.text.now c.loop-place.place c.in-Some.digit within digit.0 digit.1 in (
      omega (arith, value, c.loop-place.invariant.0),
      digits_more c.args.text.now c.loop-place.place within (omega (arith, digit.0)) (omega (arith, digit.0, digit.1))
          c.loop-place.invariant.1,
      omega arith,
    )
