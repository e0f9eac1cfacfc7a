-- The end of a watch's relay may go to another thread, since a relay's end may.
use denote.Param.Send.{IsSend, recorded_send_at, recorded_send_of, struct_send_at, view_send}
use denote.RattleType.{RattleType}
use denote.Struct.Declared.{Declared, shape}
use denote.Struct.Struct.{Struct}
use Rattle.wcp_relay.specs.contracts.relay_end.RelayEnd as relay_end
use Rattle.wcp_watch.proofs.SentEnds.{relay_end_send}
use Rattle.wullaphi.specs.contracts.own_ends.WatchRelayEnd.{the_row}
use Rattle.wullaphi.specs.contracts.own_ends.WatchRelayEnd.TheInside as inside
use Rattle.wullaphi.specs.declared.opening.Opening.{Ghosts}

pub watch_relay_end_send : (W : RattleType) (g : Ghosts W.Denot) → IsSend (the_row W g)
watch_relay_end_send W g =
    let its : Declared = inside.the_type W g in
    let of : Declared = relay_end.the_type in
    let sent = recorded_send_at (Struct (shape of)) of.D of.to of.to_one relay_end_send in
    view_send (inside.the_row W g) _ _ _ _
    (recorded_send_of (Struct (shape its)) its.D its.to its.to_one
    (λ d. struct_send_at (shape its) (its.to d) (sent d.end, ((λ vs x. (tt, tt), λ k x. tt), tt))))
