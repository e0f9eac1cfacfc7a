use Rattle.wullaphi.proofs.OwnWatches.{probe_end_of}
use Rattle.wullaphi.proofs.own_parts.WatchProbe.run_or_lose.Goals as goal

pub new-requires : goal.new-requires
new-requires g c = probe_end_of c.in-Some.is c.lend_and_close-answer.ensures.closed c.self.invariant
