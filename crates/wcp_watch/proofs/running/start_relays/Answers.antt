use denote.Param.Send.{sendable}
use Rattle.wcp_watch.proofs.SentEnds.{relay_end_send}
use Rattle.wcp_watch.proofs.running.start_relays.Goals as goal

pub start_all-requires-send-E : goal.start_all-requires-send-E
start_all-requires-send-E g c κs within = search (relay_end_send, sendable)
