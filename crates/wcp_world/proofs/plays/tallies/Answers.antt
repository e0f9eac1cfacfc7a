use Rattle.wcp_world.proofs.Histories.{tallies_push}
use Rattle.wcp_world.proofs.plays.tallies.Goals as goal

pub loop-p-preserved : goal.loop-p-preserved
loop-p-preserved c = rw c.in_ok-push.ensures.items
    (tallies_push c.args.world.now c.loop-p.p c.loop-p.tallies.items c.tally.result c.loop-p.invariant c.tally.ensures)
