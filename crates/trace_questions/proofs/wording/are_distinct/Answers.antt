use Rattle.std.proofs.Common.{sym, ◌∙◌}
use Rattle.trace_questions.proofs.Wordings.{distinct_more, distinct_fails, distinct_ends}
use Rattle.trace_questions.proofs.wording.are_distinct.Goals as goal

pub returns-then-has_name : goal.returns-then-has_name
returns-then-has_name c =
    distinct_fails c.args.wordings.now c.loop-at.at c.index-wordings-at.result _ c.loop-at-test.true
    c.index-wordings-at.is (sym (rw c.split_at.ensures.back at c.has_name.ensures) ∙ c.if-has_name.true)
    c.loop-at.invariant

pub loop-at-preserved : goal.loop-at-preserved
loop-at-preserved c =
    distinct_more c.args.wordings.now c.loop-at.at c.index-wordings-at.result _ c.loop-at-test.true
    c.index-wordings-at.is (sym (rw c.split_at.ensures.back at c.has_name.ensures) ∙ c.if-has_name.false)
    c.loop-at.invariant

pub returns : goal.returns
returns c = distinct_ends c.args.wordings.now c.loop-at.at _ c.loop-at-test.false c.loop-at.invariant
