use Rattle.std.proofs.Common.{sym, ◌∙◌}
use Rattle.trace_condition.proofs.Sayings.{distinct_more, distinct_fails, distinct_ends}
use Rattle.trace_condition.proofs.saying.are_distinct.Goals as goal

pub returns-then-is_host : goal.returns-then-is_host
returns-then-is_host c =
    distinct_fails c.args.sayings.now c.loop-at.at _ _ c.loop-at-test.true
    (sym (rw c.split_at.ensures.back at c.is_host.ensures) ∙ c.if-is_host.true) c.loop-at.invariant

pub loop-at-preserved : goal.loop-at-preserved
loop-at-preserved c =
    distinct_more c.args.sayings.now c.loop-at.at _ _ c.loop-at-test.true
    (sym (rw c.split_at.ensures.back at c.is_host.ensures) ∙ c.if-is_host.false) c.loop-at.invariant

pub returns : goal.returns
returns c = distinct_ends c.args.sayings.now c.loop-at.at _ c.loop-at-test.false c.loop-at.invariant
