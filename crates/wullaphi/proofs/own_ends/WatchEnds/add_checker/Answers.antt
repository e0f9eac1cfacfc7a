use Rattle.wullaphi.proofs.OwnWatches.{with_checker}
use Rattle.wullaphi.proofs.own_ends.WatchEnds.add_checker.Goals as goal

pub invariant_of-self : goal.invariant_of-self
invariant_of-self g c = with_checker c.self.invariant c.end.invariant
