use Rattle.wcp_ring.proofs.Prefixes.{prefix_of_longer}
use Rattle.wcp_ring.proofs.taker.RingTaker.try_take.Goals as goal

pub returns-clause-next : goal.returns-clause-next
returns-clause-next c = prefix_of_longer _ _ _ _ c.in_ok-note.ensures.next c.tell_of_room.ensures.seen
