use Rattle.std.proofs.Common.{arith}
use Rattle.std.proofs.lemmas.Grind.{common_steps}
use Rattle.wcp_lane.proofs.NewPutters.{new_HasPut}
use Rattle.test_links.proofs.tests.lanes.lane_of_one.Goals as goal

pub returns : goal.returns
returns g c = new_HasPut c.in-Some.putter c.in-Ok.taker.lane 0 (grind (arith, common_steps))
