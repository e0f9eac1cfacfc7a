use Rattle.trace_explain.specs.Left.{DropsFirst, Left, left_at}
use Rattle.trace_explain.proofs.Words.{subst, get_or_default}
use Rattle.trace_explain.proofs.Eliminated.{AreLeft-dropped, none_left}
use Rattle.trace_explain.proofs.elimination.eliminate.Goals as goal

pub loop-over-preserved : goal.loop-over-preserved
loop-over-preserved c watched taken in_order left =
    let over = c.in-Some.ensures.some in
    let drops : DropsFirst (left_at c.loop-over.left c.in-Some.over.place) c.reason-reason.result c.drop_first.new.self =
    subst (λ (old : Left). DropsFirst old c.reason-reason.result c.drop_first.new.self)
    (get_or_default c.loop-over.left c.in-Some.over.place c.index-left-over.result none_left over.place)
    c.in_ok-drop_first.ensures in
    AreLeft-dropped watched taken c.loop-over.left c.in-Some.over.place c.in-Some.over.at c.reason-reason.result
    c.drop_first.new.self in_order (c.loop-over.invariant watched taken in_order left) over c.reason-reason.ensures drops
