use Rattle.std.specs.Prelude.{◌≡◌, ℕ, List}
use Rattle.wcp_probe.specs.declared.open_stamp.OpenStamped.{OpenStamped}
use Rattle.wcp_probe.specs.declared.stamp.Stamped.{Stamped}

-- What a stamp says of a message: the watch, the sender and the receiver, and the sender's clock after the send.
pub record Seal : Type 0 where
  pub watch : ℕ
  pub from : ℕ
  pub to : ℕ
  pub clock : List ℕ

-- The seal and the value of a stamped message.
abbrev pub seal_of : {T : Type 0} → Stamped T → Seal
seal_of message = record { watch = message.watch; from = message.from; to = message.to; clock = message.clock }

-- What a stamp says of a message where it is told without its sender, by which no probe refuses it.
abbrev pub told_seal : ℕ → ℕ → List ℕ → Seal
told_seal watch to clock = record { watch = watch; from = 0; to = to; clock = clock }

-- What the stamp of an open message says where it is told without a receiver, by which no probe refuses it.
abbrev pub open_seal : ℕ → ℕ → List ℕ → Seal
open_seal watch from clock = record { watch = watch; from = from; to = 0; clock = clock }

abbrev pub value_of : {T : Type 0} → Stamped T → T
value_of message = message.value

abbrev pub IsSealed : {T : Type 0} → Stamped T → Seal → T → Type 0
IsSealed message seal value = (seal_of message ≡ seal) × (value_of message ≡ value)

-- The seal and the value of an open message, which names no receiver.
abbrev pub open_seal_of : {T : Type 0} → OpenStamped T → Seal
open_seal_of message = open_seal message.watch message.from message.clock

abbrev pub open_value_of : {T : Type 0} → OpenStamped T → T
open_value_of message = message.value

abbrev pub IsOpenSealed : {T : Type 0} → OpenStamped T → Seal → T → Type 0
IsOpenSealed message seal value = (open_seal_of message ≡ seal) × (open_value_of message ≡ value)
