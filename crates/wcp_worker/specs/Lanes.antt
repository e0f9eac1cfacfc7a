-- The lanes between workers, and the messages that went over them.
use Rattle.std.specs.Prelude.{◌≡◌, ◌↔◌, ℕ, ◌<◌, true, Option, Some, None, IsSome, List, [], length, map}
use Rattle.std.specs.FinSet as set
use mathlib.Core.List.{IsPrefix}
use Rattle.wcp_probe.specs.Seal.{seal_of}
use Rattle.wcp_model.specs.LaneRule.{items_from}
use Rattle.wcp_worker.specs.declared.message.Message.{Message}
use Rattle.wcp_worker.specs.declared.lane_ends.Outbox.{Outbox}
use Rattle.wcp_worker.specs.declared.lane_ends.Inbox.{Inbox}

-- The messages of process p among these, in order.
abbrev pub messages_from : ℕ → List Message → List Message
messages_from p messages = items_from (λ (m : Message). m.stamped.from) p messages

-- The clocks that the stamps of these messages carry.
abbrev pub clocks_from : ℕ → List Message → List (List ℕ)
clocks_from p messages = map (λ message. (seal_of message.stamped).clock) (messages_from p messages)

-- By this end process p sends: it puts the messages of p, and counts them.
pub record IsOutboxOf (p : ℕ) (outbox : Outbox) : Type 0 where
  pub own : set.contains outbox.putter.members p ≡ true
  pub counted : outbox.sent ≡ length (messages_from p outbox.putter.put)

-- By this end the messages of process q come, and no others.
abbrev pub IsInboxOf : ℕ → Inbox → Type 0
IsInboxOf q inbox = (p : ℕ) → set.contains inbox.taker.members p ≡ true → p ≡ q

-- An end keeps its lane and its processes.
abbrev pub IsSameOutbox : Outbox → Outbox → Type 0
IsSameOutbox old new = (new.putter.lane ≡ old.putter.lane) × (new.putter.members ≡ old.putter.members)

abbrev pub IsSameInbox : Inbox → Inbox → Type 0
IsSameInbox old new = (new.taker.lane ≡ old.taker.lane) × (new.taker.members ≡ old.taker.members)

-- By an end more of q has come: what had come before is a prefix of it.
pub record HasTakenMore (q : ℕ) (old new : Inbox) : Type 0 where
  pub same : IsSameInbox old new
  pub prefix : IsInboxOf q old → IsPrefix (clocks_from q old.taker.taken) (clocks_from q new.taker.taken)

-- Both are there and this holds of them, or neither is there.
abbrev pub IfBoth : {A B : Type 0} → (A → B → Type 0) → Option A → Option B → Type 0
IfBoth holds (Some a) (Some b) = holds a b
IfBoth holds None None = Unit {0}
IfBoth holds _ _ = ⊥

-- What was put or taken by an end, if it is there.
abbrev pub messages_put : Option Outbox → List Message
messages_put (Some outbox) = outbox.putter.put
messages_put None = []

abbrev pub messages_taken : Option Inbox → List Message
messages_taken (Some inbox) = inbox.taker.taken
messages_taken None = []

-- A lane by which process p is to send this many messages, and has sent none.
pub record IsNewLane (p count : ℕ) (outbox : Outbox) (inbox : Inbox) : Type 0 where
  pub one_lane : outbox.putter.lane ≡ inbox.taker.lane
  pub puts : IsOutboxOf p outbox
  pub takes : IsInboxOf p inbox
  pub none_put : outbox.putter.put ≡ []
  pub none_taken : inbox.taker.taken ≡ []
  pub room : outbox.room ≡ count
  pub due : inbox.due ≡ count

-- There is such a lane exactly where some messages are to be sent.
abbrev pub IsLaneFor : ℕ → ℕ → Option Outbox → Option Inbox → Type 0
IsLaneFor p count outbox inbox = (IsSome outbox ↔ (0 < count)) × IfBoth (IsNewLane p count) outbox inbox
