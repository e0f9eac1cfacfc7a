use Rattle.trace_condition.proofs.Words.{map, seen_saying, ReadsSayings}
use Rattle.trace_condition.proofs.Handed.{handed_on}
use Rattle.trace_condition.proofs.Conditions.{fails_at, read_more}
use Rattle.trace_condition.proofs.condition.read_each.Goals as goal

pub returns-in_err-condition : goal.returns-in_err-condition
returns-in_err-condition c =
    let so_far = c.loop-saying.invariant in
    let fails = fails_at c.args.sayings.now c.loop-saying.saying-index _ c.loop-saying.conditions.items
    c.in_err-condition.field-0.0 c.loop-saying-test.true so_far.1 so_far.0 c.in_err-condition.ensures in
    handed_on (λ r. ReadsSayings (map seen_saying c.args.sayings.now) r) c.from_residual-in_err-condition.result
    c.in_err-condition.field-0.0 c.from_residual-in_err-condition.ensures fails

pub loop-saying-preserved : goal.loop-saying-preserved
loop-saying-preserved c =
    rw c.in_ok-push.ensures.items
    (read_more c.args.sayings.now c.loop-saying.saying-index _ c.loop-saying.conditions.items
    c.in_ok-condition.condition c.loop-saying-test.true c.loop-saying.invariant c.in_ok-condition.ensures)
