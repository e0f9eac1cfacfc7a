use Rattle.wcp_worker.proofs.Words.{◌≡◌, ◌<◌, ◌≤◌, ℕ, length, IsAllTaken, ends_between}
use Rattle.wcp_worker.proofs.matched_lanes.match_lanes_from.Given as goal

abbrev pub invariant-loop-q : goal.invariant-loop-q
invariant-loop-q l =
    (length l.mailboxes ≡ length l.initial.mailboxes)
    × ((b : ℕ) → b < l.q → IsAllTaken (ends_between l.initial.mailboxes l.p b))
    × ((a b : ℕ) → (a ≡ l.p → l.q ≤ b) → ends_between l.mailboxes a b ≡ ends_between l.initial.mailboxes a b)
