use Rattle.std.proofs.lemmas.Grind.{common_steps}
use Rattle.trace_detect.proofs.Words.{arith}
use Rattle.trace_detect.specs.Told.{count_of}
use Rattle.trace_detect.proofs.Telling.{count_told, counts_next, counts_whole}
use Rattle.trace_detect.proofs.told.counts_of.Goals as goal

pub loop-place-preserved : goal.loop-place-preserved
loop-place-preserved c logged are =
    let conditions = c.args.conditions.now in
    let same = c.index-conditions-place.is in
    let knows = are.each c.loop-place.place c.index-conditions-place.result c.index-judges-place.result (omega arith) in
    counts_next (count_of conditions logged) _ _ c.in_ok-count.count conditions c.loop-place.place
    c.index-conditions-place.result _ (omega arith) c.in_ok-push.ensures.items same
    (count_told conditions logged c.index-conditions-place.result _ c.in_ok-count.count _ _ same c.in_ok-count.ensures
    knows.events knows.matched) (c.loop-place.invariant logged are)

pub returns : goal.returns
returns c logged are = grind (arith, common_steps, counts_whole, c.loop-place.invariant)
