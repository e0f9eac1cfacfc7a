use Rattle.std.proofs.lemmas.Bool.{false≢true}
use Rattle.trace_log.proofs.Numbers.{no_plus}
use Rattle.trace_words.proofs.LineNumbers.{is_line, zero_is_none, no_line, plus_is_none}
use Rattle.trace_words.proofs.line_number.line_said.Goals as goal

pub returns-then-begins_with_plus : goal.returns-then-begins_with_plus
returns-then-begins_with_plus c =
    let plus = c.begins_with_plus.ensures.0 c.if-begins_with_plus.true in
    plus_is_none _ plus.0 plus.1

pub returns-in-Ok : goal.returns-in-Ok
returns-in-Ok c =
    let plain = no_plus c.args.word.now (λ plus. absurd (false≢true (c.if-begins_with_plus.ensures.1 plus))) in
    is_line c.args.word.now _ plain c.in-Ok.ensures.value.0 c.if-number-ge-FIRST_LINE.true

pub returns-in_default : goal.returns-in_default
returns-in_default c =
    let plain = no_plus c.args.word.now (λ plus. absurd (false≢true (c.if-begins_with_plus.ensures.1 plus))) in
    zero_is_none c.args.word.now _ plain c.in-Ok.ensures.value.0 c.if-number-ge-FIRST_LINE.false

pub returns-in_default-2 : goal.returns-in_default-2
returns-in_default-2 c =
    let plain = no_plus c.args.word.now (λ plus. absurd (false≢true (c.if-begins_with_plus.ensures.1 plus))) in
    no_line c.args.word.now 0 plain c.in_default.ensures.value.0
