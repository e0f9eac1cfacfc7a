use Rattle.std.proofs.lemmas.Grind.{common_steps}
use Rattle.trace_detect.proofs.Words.{arith}
use Rattle.trace_detect.proofs.RunsTaken.{runs_next, runs_whole}
use Rattle.trace_detect.proofs.told.runs_of.Goals as goal

pub loop-place-preserved : goal.loop-place-preserved
loop-place-preserved c runs kept =
    runs_next _ _ c.in_ok-told.told c.args.conditions.now c.loop-place.place c.index-conditions-place.result runs _
    (omega arith) c.in_ok-push.ensures.items c.index-conditions-place.is (c.in_ok-told.ensures runs kept)
    (c.loop-place.invariant runs kept)

pub returns : goal.returns
returns c runs kept = grind (arith, common_steps, runs_whole, c.loop-place.invariant runs kept)
