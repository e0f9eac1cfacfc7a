-- The lanes of one process: by which it sends to each other, and by which the messages of each other come.
use Rattle.std.specs.Prelude.{ℕ, Option, None, List, slice_index_or, IfSome}
use Rattle.wcp_worker.specs.declared.lane_ends.Outbox.{Outbox}
use Rattle.wcp_worker.specs.declared.lane_ends.Inbox.{Inbox}
use Rattle.wcp_worker.specs.declared.mailbox.Mailbox.{Mailbox}
use Rattle.wcp_worker.specs.Lanes.{IsOutboxOf, IsInboxOf, IsSameOutbox, IsSameInbox, IfBoth, messages_put}
use Rattle.wcp_worker.specs.Lanes.{messages_taken, clocks_from}

-- The end by which it sends to q, and the end by which the messages of q come, where they are there.
abbrev pub outbox_to : Mailbox → ℕ → Option Outbox
outbox_to mailbox q = slice_index_or mailbox.outboxes.items q None

abbrev pub inbox_from : Mailbox → ℕ → Option Inbox
inbox_from mailbox q = slice_index_or mailbox.inboxes.items q None

-- The clocks of the messages that process p put on its lane to q, and of those of q that were taken.
abbrev pub clocks_sent_to : ℕ → Mailbox → ℕ → List (List ℕ)
clocks_sent_to p mailbox q = clocks_from p (messages_put (outbox_to mailbox q))

abbrev pub clocks_taken_from : Mailbox → ℕ → List (List ℕ)
clocks_taken_from mailbox q = clocks_from q (messages_taken (inbox_from mailbox q))

-- The lanes of process p.
pub record IsMailboxOf (p : ℕ) (mailbox : Mailbox) : Type 0 where
  pub outboxes : (q : ℕ) → IfSome (outbox_to mailbox q) (IsOutboxOf p)
  pub inboxes : (q : ℕ) → IfSome (inbox_from mailbox q) (IsInboxOf q)

-- A mailbox keeps its lanes.
pub record HasSameLanes (old new : Mailbox) : Type 0 where
  pub outboxes : (q : ℕ) → IfBoth IsSameOutbox (outbox_to old q) (outbox_to new q)
  pub inboxes : (q : ℕ) → IfBoth IsSameInbox (inbox_from old q) (inbox_from new q)
