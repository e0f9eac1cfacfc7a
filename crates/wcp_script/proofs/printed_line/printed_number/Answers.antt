use Rattle.wcp_script.proofs.Numbers.{decimal_unit, decimal_teen}
use Rattle.wcp_script.proofs.printed_line.printed_number.Goals as goal

pub returns-in-Some : goal.returns-in-Some
returns-in-Some c =
    decimal_unit c.in_ok-first.first c.args.text.now _ (rw c.in-Some.ensures at c.in_ok-first.ensures.spelled)
    c.in_ok-first.ensures.digit

pub returns : goal.returns
returns c =
    decimal_teen c.in_ok-unit.unit c.args.text.now c.in_ok-first.rest.now _
    (rw c.if-first-ne1.false at c.in_ok-first.ensures.spelled)
    (rw c.in_ok-after_byte.ensures at c.in_ok-unit.ensures.spelled) c.in_ok-unit.ensures.digit
