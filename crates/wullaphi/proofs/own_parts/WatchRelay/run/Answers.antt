use Rattle.wullaphi.proofs.OwnWatches.{relay_end}
use Rattle.wullaphi.proofs.own_parts.WatchRelay.run.Goals as goal

pub new-requires : goal.new-requires
new-requires g c = relay_end c.run.ensures.number c.run.ensures.receipts c.run.ensures.whole c.self.invariant
