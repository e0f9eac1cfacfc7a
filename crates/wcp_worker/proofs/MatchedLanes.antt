-- The lanes among the mailboxes of all processes, as their ends are taken out.
use Rattle.wcp_worker.proofs.Words.{◌≡◌, ◌≢◌, ◌↔◌, ℕ, Option, Some, None, Result, Ok, Err, List, length, slice_get}
use Rattle.wcp_worker.proofs.Words.{slice_set, get_or, true, true≢false, refl, ap, sym, ◌∙◌, ◌<◌, subst₂, arith}
use Rattle.wcp_worker.proofs.Words.{cases_eq, common_steps, gets, length-map, length-set, slice_index_or, IsOk, OnOk}
use Rattle.wcp_worker.proofs.Words.{slice_get_within, slice_get-get_or, Inbox, Outbox, Mailbox, seal_of, Message}
use Rattle.wcp_worker.proofs.Words.{IfBoth, messages_from, messages_put, messages_taken, clocks_from, outbox_to}
use Rattle.wcp_worker.proofs.Words.{inbox_from, outbox_of, inbox_of, ends_between, AreAllTaken, AreMatched, AreOfLane}
use Rattle.wcp_worker.proofs.Words.{IsAllTaken, IsLaneOf}
use Rattle.std.specs.FinSet as set
use Rattle.wcp_lane.specs.declared.fault.Unfinished.{Unfinished}

-- what is the same of one that was changed is the same of each
same_of_each : {X Y : Type 0} (f : Option X → Y) (xs : List X) (k : ℕ) (old new : X) (a : ℕ)
    → slice_get xs k ≡ Some old → (a ≡ k → f (Some new) ≡ f (Some old))
    → f (slice_get (slice_set xs k new) a) ≡ f (slice_get xs a)
same_of_each f xs k old new a at same = grind (arith, common_steps, gets, at, same, cases_eq a k)

-- as the end by which p sends to q leaves its mailbox, and then the other end of this lane
module _
    (ms : List Mailbox) (p q : ℕ) (d left e last : Mailbox) (p_below : p < length ms) (q_below : q < length ms)
    (same : left.inboxes ≡ (get_or ms p d).inboxes) where
  abbrev from : Mailbox
  from = get_or ms p d

  abbrev to : Mailbox
  to = get_or (slice_set ms p left) q e

  at : slice_get ms p ≡ Some from
  at = slice_get-get_or ms p d p_below

  then_at : slice_get (slice_set ms p left) q ≡ Some to
  then_at = slice_get-get_or (slice_set ms p left) q e (omega (arith, length-set ms p left))

  inboxes_kept : (a b : ℕ) → inbox_of (slice_get (slice_set ms p left) b) a ≡ inbox_of (slice_get ms b) a
  inboxes_kept a b =
      same_of_each (λ m. inbox_of m a) ms p from left b at (λ here. ap (λ rows. slice_index_or rows.items a None) same)

  -- the ends between all others stay
  pub others_stay : ((b : ℕ) → b ≢ q → outbox_to left b ≡ outbox_to from b)
      → ((a : ℕ) → a ≢ p → inbox_from last a ≡ inbox_from to a)
      → last.outboxes ≡ to.outboxes → (a b : ℕ) → (a ≡ p → b ≢ q)
      → ends_between (slice_set (slice_set ms p left) q last) a b ≡ ends_between ms a b
  others_stay out in_ outboxes a b apart = λ i. (sending i, coming i)
    where
      sending : outbox_of (slice_get (slice_set (slice_set ms p left) q last) a) b ≡ outbox_of (slice_get ms a) b
      sending =
          same_of_each (λ m. outbox_of m b) (slice_set ms p left) q to last a then_at
          (λ here. ap (λ rows. slice_index_or rows.items b None) outboxes)
          ∙ same_of_each (λ m. outbox_of m b) ms p from left a at (λ here. out b (apart here))

      coming : inbox_of (slice_get (slice_set (slice_set ms p left) q last) b) a ≡ inbox_of (slice_get ms b) a
      coming =
          same_of_each (λ m. inbox_of m a) (slice_set ms p left) q to last b then_at
          (λ there. in_ a (λ here. apart here there))
          ∙ inboxes_kept a b

  -- they are the ends between the two
  pub ends_are : (outbox : Option Outbox) (inbox : Option Inbox) → outbox_to from q ≡ outbox → inbox_from to p ≡ inbox
      → ends_between ms p q ≡ (outbox, inbox)
  ends_are outbox inbox sending coming =
      λ i. (
        (ap (λ m. outbox_of m q) at ∙ sending) i,
        (sym (inboxes_kept p q) ∙ ap (λ m. inbox_of m p) then_at ∙ coming) i,
      )

-- the ends of a lane were matched where all was taken
on_ok : (result : Result (Unit {0}) Unfinished) (P : Type 0) → OnOk result P → IsOk result → P
on_ok (Ok done) P is ok = is
on_ok (Err unfinished) P is ok = absurd (true≢false (sym ok))

as_many : (p : ℕ) (messages : List Message) → length (messages_from p messages) ≡ length (clocks_from p messages)
as_many p messages = sym (length-map (messages_from p messages) (λ message. (seal_of message.stamped).clock))

pub exact_between : (result : Result (Unit {0}) Unfinished) (outbox : Outbox) (inbox : Inbox)
    → IsOk result ↔ ((p : ℕ) → set.contains outbox.putter.members p ≡ true
    → length (messages_from p inbox.taker.taken) ≡ length (messages_from p outbox.putter.put))
    → OnOk result ((p : ℕ) → set.contains outbox.putter.members p ≡ true
    → clocks_from p inbox.taker.taken ≡ clocks_from p outbox.putter.put)
    → IsOk result ↔ IsAllTaken (Some outbox, Some inbox)
exact_between result outbox inbox exact matched = (
  on_ok result _ matched,
  λ all. exact.1 (λ p member.
      as_many p inbox.taker.taken ∙ ap length (all p member) ∙ sym (as_many p outbox.putter.put)),
)

-- what its sender put was taken
its_own_taken : (p : ℕ) (outbox : Option Outbox) (inbox : Option Inbox) → IfBoth (IsLaneOf p) outbox inbox
    → IsAllTaken (outbox, inbox)
    → clocks_from p (messages_taken inbox) ≡ clocks_from p (messages_put outbox)
its_own_taken p (Some outbox) (Some inbox) lane all = all p lane.own
its_own_taken p (Some outbox) None lane all = absurd lane
its_own_taken p None (Some inbox) lane all = absurd lane
its_own_taken p None None lane all = refl

-- where all that was put between each two was taken, all messages were
pub all_matched : (ms : List Mailbox) → ((a b : ℕ) → a < length ms → b < length ms → AreOfLane a (ends_between ms a b))
    → AreAllTaken ms → AreMatched ms
all_matched ms lanes all p q from to from_at to_at =
    let from_below = slice_get_within ms p from from_at in
    let to_below = slice_get_within ms q to to_at in
    subst₂ (λ source target. clocks_from p (messages_taken (inbox_of target p)) ≡ clocks_from p
    (messages_put (outbox_of source q))) from_at to_at
    (its_own_taken p _ _ (lanes p q from_below to_below) (all p q from_below to_below))
