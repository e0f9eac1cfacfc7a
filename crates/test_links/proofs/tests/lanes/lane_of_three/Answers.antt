use Rattle.std.proofs.Common.{arith}
use Rattle.std.proofs.lemmas.Grind.{common_steps}
use Rattle.wcp_lane.proofs.NewPutters.{new_HasPut}
use Rattle.test_links.proofs.tests.lanes.lane_of_three.Goals as goal

pub returns-clause-new : goal.returns-clause-new
returns-clause-new g c =
    let lane = c.in-Ok.taker.lane in (
      new_HasPut c.in-Some-pop-2.first lane 0 (grind (arith, common_steps)),
      new_HasPut c.in-Some-pop.second lane 1 (grind (arith, common_steps)),
      new_HasPut c.in-Some.third lane 2 (grind (arith, common_steps)),
    )
