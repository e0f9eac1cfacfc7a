use Rattle.wullaphi.proofs.OwnWatches.{more_probes}
use Rattle.wullaphi.proofs.own_ends.WatchEnds.add_probe.Goals as goal

pub invariant_of-self-2 : goal.invariant_of-self-2
invariant_of-self-2 g c = more_probes c.self.invariant c.end.invariant c.in_ok-push.ensures.items
