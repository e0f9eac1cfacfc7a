-- The lanes between workers that have played.
use Rattle.wcp_worker.proofs.Words.{ℕ, Option, Some, None, sym, ap, ◌∙◌, Inbox, Outbox, IfBoth, IsNewLane, IsSameOutbox}
use Rattle.wcp_worker.proofs.Words.{IsSameInbox, AreOfLane}
use Rattle.std.specs.FinSet as set

-- the ends of a new lane are of it as long as each end keeps its lane
pub ends_of_lane : (p count : ℕ) (a b : Option Outbox) (c d : Option Inbox) → IfBoth (IsNewLane p count) a c
    → IfBoth IsSameOutbox a b → IfBoth IsSameInbox c d → AreOfLane p (b, d)
ends_of_lane p count (Some a) (Some b) (Some c) (Some d) new outbox inbox =
    record {
      one_lane = outbox.0 ∙ new.one_lane ∙ sym inbox.0;
      own = ap (λ members. set.contains members p) outbox.1 ∙ new.puts.own;
    }
ends_of_lane p count None None None None new outbox inbox = tt
ends_of_lane p count (Some a) None c d new outbox inbox = absurd outbox
ends_of_lane p count None (Some b) c d new outbox inbox = absurd outbox
ends_of_lane p count (Some a) (Some b) None d new outbox inbox = absurd new
ends_of_lane p count (Some a) (Some b) (Some c) None new outbox inbox = absurd inbox
ends_of_lane p count None None (Some c) d new outbox inbox = absurd new
ends_of_lane p count None None None (Some d) new outbox inbox = absurd inbox
