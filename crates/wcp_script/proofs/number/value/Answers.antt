use Rattle.wcp_script.proofs.Words.{◌<◌, length, ap, arith, digits_value_more, digits_more, digit_value}
use Rattle.wcp_script.proofs.Numbers.{no_digit, too_large}
use Rattle.wcp_script.proofs.number.value.Goals as goal

pub returns-in_err-digit : goal.returns-in_err-digit
returns-in_err-digit c = rw c.from_residual.ensures (λ digits. absurd (no_digit _ c.loop-byte.byte-index
    c.loop-byte-test.true (λ lt. c.in_err-digit.ensures.value (rw c.from.ensures lt)) digits))

pub returns-in_err-checked_mul : goal.returns-in_err-checked_mul
returns-in_err-checked_mul c =
    rw c.from_residual-in_err-checked_mul.ensures (λ digits. too_large _ c.loop-byte.byte-index c.loop-byte.value
    c.loop-byte-test.true c.loop-byte.invariant.1 (omega (arith, c.in_err-checked_mul.ensures)))

pub returns-in_err-value : goal.returns-in_err-value
returns-in_err-value c = rw c.from_residual-in_err-value.ensures
    (λ digits. too_large _ c.loop-byte.byte-index c.loop-byte.value c.loop-byte-test.true c.loop-byte.invariant.1
    (omega (
      arith,
      c.in_err-value.ensures,
      c.in_ok-checked_mul.ensures.1,
      c.in_ok-digit.ensures.value.1,
      ap digit_value c.from.ensures,
    )))

pub loop-byte-preserved : goal.loop-byte-preserved
loop-byte-preserved c =
    let ds = c.args.digits.now in
    let i = c.loop-byte.byte-index in
    let lt : i < length ds = c.loop-byte-test.true in
    let digit = c.in_ok-digit.ensures.value in
    let total = c.in_ok-value.ensures in (
      digits_more 10 ds i lt c.loop-byte.invariant.0 (rw (← c.from.ensures) digit.0),
      omega (
        arith,
        digits_value_more 10 ds i lt,
        c.loop-byte.invariant.1,
        digit.1,
        ap digit_value c.from.ensures,
        c.in_ok-checked_mul.ensures.1,
        total.1,
      ),
      omega (arith, total.0, total.1),
    )
