use denote.Param.Send.{sendable}
use Rattle.wcp_watch.proofs.SentEnds.{relay_end_send}
use Rattle.wcp_watch.proofs.running.join_relays.Goals as goal

pub join_all-requires-send-E : goal.join_all-requires-send-E
join_all-requires-send-E g c κs within = search (relay_end_send, sendable)
