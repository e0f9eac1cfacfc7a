use Rattle.std.proofs.lemmas.Grind.{common_steps}
use Rattle.trace_detect.proofs.Words.{arith}
use Rattle.trace_detect.proofs.Telling.{members_next, members_whole}
use Rattle.trace_detect.proofs.told.members_of.Goals as goal

pub loop-place-preserved : goal.loop-place-preserved
loop-place-preserved c moment kept =
    members_next _ _ c.in_ok-member.member c.args.conditions.now c.loop-place.place c.index-conditions-place.result
    moment _ (omega arith) c.in_ok-push.ensures.items c.index-conditions-place.is (c.in_ok-member.ensures moment kept)
    (c.loop-place.invariant moment kept)

pub returns : goal.returns
returns c moment kept = grind (arith, common_steps, members_whole, c.loop-place.invariant moment kept)
