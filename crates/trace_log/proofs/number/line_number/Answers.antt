use Rattle.std.proofs.lemmas.Bool.{false≢true}
use Rattle.trace_log.proofs.Numbers.{is_line, is_no_line, no_plus, plus_is_no_line}
use Rattle.trace_log.proofs.number.line_number.Goals as goal

pub returns-then-begins_with_plus : goal.returns-then-begins_with_plus
returns-then-begins_with_plus c =
    let plus = c.begins_with_plus.ensures.0 c.if-begins_with_plus.true in
    plus_is_no_line _ plus.0 plus.1

pub returns-in-Ok : goal.returns-in-Ok
returns-in-Ok c =
    let plain = no_plus c.args.text.now (λ plus. absurd (false≢true (c.if-begins_with_plus.ensures.1 plus))) in
    is_line c.args.text.now _ plain c.in-Ok.ensures.value.0

pub returns-in-Err : goal.returns-in-Err
returns-in-Err c =
    let plain = no_plus c.args.text.now (λ plus. absurd (false≢true (c.if-begins_with_plus.ensures.1 plus))) in
    is_no_line c.args.text.now 0 plain c.in-Err.ensures.value.0
