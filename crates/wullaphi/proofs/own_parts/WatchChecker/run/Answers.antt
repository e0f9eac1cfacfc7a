use Rattle.wullaphi.proofs.OwnWatches.{checker_end}
use Rattle.wullaphi.proofs.own_parts.WatchChecker.run.Goals as goal

pub new-requires : goal.new-requires
new-requires g c = checker_end c.check_loop.ensures c.self.invariant
