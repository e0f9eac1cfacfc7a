-- What a process does that sends through a channel, or receives from one.
use Rattle.std.specs.Prelude.{◌≡◌, ℕ, Some, None}
use Rattle.wcp_model.specs.ProbeLog.{Received}
use Rattle.wcp_probe.specs.declared.stamp.Stamped.{Stamped}
use Rattle.wcp_probe.specs.Refusals.{receive_refusal, stamp_refusal}
use Rattle.wcp_probe.specs.Seal.{IsSealed, seal_of, value_of}
use Rattle.wcp_relay.specs.LiveProbe.{LiveAccepts, LiveSide}
use Rattle.wullaphi.specs.declared.channel_fault.ChannelFault.{ChannelFault}
use Rattle.wullaphi.specs.declared.channel_fault.ChannelFault.TheVariants.{Send, NoReceiver, Memory, Receive, NoSender}
use Rattle.wullaphi.specs.WatchedLocks.{HoldsOn, Leaves}

-- A message with this value was stamped for a process, and the probe stands as after the send: it is handed back.
pub record StampsInVain {T : Type 0} (to : ℕ) (value : T) (message : Stamped T) (old new : LiveSide) : Type 0 where
  pub left : Leaves old new
  pub to_is : (seal_of message).to ≡ to
  pub from_is : (seal_of message).from ≡ old.core.id
  pub of_watch : (seal_of message).watch ≡ old.core.watch
  pub value_is : value_of message ≡ value

-- A process has sent nothing through a channel: its probe refused, and has done nothing; or the message was stamped, and
-- the channel didn't take it.
abbrev pub SendsNone : {T : Type 0} → LiveSide → ℕ → T → LiveSide → ChannelFault T → Type 0
SendsNone old to value new (Send why back) =
    (stamp_refusal old.core to ≡ Some why) × (back ≡ value) × (new ≡ old)
SendsNone old to value new (NoReceiver message) = StampsInVain to value message old new
SendsNone old to value new (Memory message) = StampsInVain to value message old new
SendsNone old to value new (Receive why message) = ⊥
SendsNone old to value new NoSender = ⊥

-- A process has received a message with this value, and observes again if its condition lasts.
abbrev pub ReceivesSome : {T : Type 0} → T → LiveSide → LiveSide → Type 0
ReceivesSome {T = T} value old new = (message : Stamped T) × (middle : LiveSide)
    × (value_of message ≡ value) × (receive_refusal old.core (seal_of message) ≡ None)
    × LiveAccepts old (Received (seal_of message).clock) middle × HoldsOn middle new

-- A process has received nothing, and its probe has done nothing: it refused the message that was next, or none comes.
abbrev pub ReceivesNone : {T : Type 0} → ChannelFault T → LiveSide → LiveSide → Type 0
ReceivesNone (Send why back) old new = ⊥
ReceivesNone (NoReceiver message) old new = ⊥
ReceivesNone (Memory message) old new = ⊥
ReceivesNone (Receive why message) old new = (receive_refusal old.core (seal_of message) ≡ Some why) × (new ≡ old)
ReceivesNone NoSender old new = new ≡ old
