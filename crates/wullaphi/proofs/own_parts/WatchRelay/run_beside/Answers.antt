use denote.Param.Send.{sendable}
use Rattle.wullaphi.proofs.SentEnds.{watch_relay_end_send}
use Rattle.wullaphi.proofs.own_parts.WatchRelay.run_beside.Goals as goal

pub join-requires-send-A : goal.join-requires-send-A
join-requires-send-A g c κs within = search (watch_relay_end_send, sendable)
