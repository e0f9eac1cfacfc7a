use Rattle.trace_questions.proofs.Members.{first_other, first_among}
use Rattle.trace_questions.proofs.keys.has_only.Goals as goal

pub returns-then-not-is_among : goal.returns-then-not-is_among
returns-then-not-is_among c =
    first_other c.args.keys.now c.loop-key.key-iterator c.next.new.self (c.in-Some.key.now, c.in-Some.field-0-1.now)
    c.is_among.result _ c.in-Some.ensures.steps (rw c.as_str.ensures.value at c.is_among.ensures)
    c.if-not-is_among.true c.loop-key.invariant

pub loop-key-preserved : goal.loop-key-preserved
loop-key-preserved c =
    first_among c.args.keys.now c.loop-key.key-iterator c.next.new.self (c.in-Some.key.now, c.in-Some.field-0-1.now)
    c.is_among.result _ c.in-Some.ensures.steps (rw c.as_str.ensures.value at c.is_among.ensures)
    c.if-not-is_among.false c.loop-key.invariant
