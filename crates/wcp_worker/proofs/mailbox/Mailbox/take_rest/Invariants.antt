use Rattle.wcp_worker.proofs.Words.{◌≡◌, ℕ, length, IfBoth, HasTakenMore, inbox_from}
use Rattle.wcp_worker.proofs.mailbox.Mailbox.take_rest.Given as goal

abbrev pub invariant-loop-from : goal.invariant-loop-from
invariant-loop-from g l =
    record {
      count : length l.self.inboxes.items ≡ length l.initial.self.inboxes.items;
      more : (q : ℕ) → IfBoth (HasTakenMore q) (inbox_from l.initial.self q) (inbox_from l.self q);
      outboxes : l.self.outboxes ≡ l.initial.self.outboxes;
    }
