use Rattle.std.proofs.Common.{[]}
use Rattle.wcp_world.proofs.Histories.{fresh_world}
use Rattle.wcp_world.proofs.world.World.new.Goals as goal

pub invariant_of-result : goal.invariant_of-result
invariant_of-result c = (c.args.plan.now, [], [], c.in_ok-new.ensures)

pub returns : goal.returns
returns c = fresh_world c.args.plan.now _ c.in_ok-new.ensures
