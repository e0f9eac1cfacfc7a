use Rattle.std.proofs.Common.{◌∙◌, arith, sym}
use Rattle.trace_pages.proofs.Statuses.{moment_more}
use Rattle.trace_pages.proofs.several.first_with_moment.Goals as goal

pub loop-place-preserved : goal.loop-place-preserved
loop-place-preserved c =
    moment_more c.args.answered.now c.loop-place.place c.index-answered-place.result (omega arith)
    (sym c.has_moment.ensures ∙ c.if-has_moment.false) c.loop-place.invariant
