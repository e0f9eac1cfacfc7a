use Rattle.wcp_worker.proofs.Words.{◌≡◌, ◌<◌, ◌≤◌, ℕ, length, IsAllTaken, ends_between}
use Rattle.wcp_worker.proofs.matched_lanes.match_lanes.Given as goal

abbrev pub invariant-loop-p : goal.invariant-loop-p
invariant-loop-p l =
    (length l.mailboxes.items ≡ length l.initial.mailboxes.items)
    × ((a b : ℕ) → a < l.p → b < length l.initial.mailboxes.items
    → IsAllTaken (ends_between l.initial.mailboxes.items a b))
    × ((a b : ℕ) → l.p ≤ a → ends_between l.mailboxes.items a b ≡ ends_between l.initial.mailboxes.items a b)
