use Rattle.wcp_worker.proofs.Words.{◌≡◌, ℕ, ◌<◌, ◌≤◌, length, slice_index_or, Worker, HasRow, IsSameButInboxes}
use Rattle.wcp_worker.proofs.worker_opening.open_row.Given as goal

abbrev pub invariant-loop-q : goal.invariant-loop-q
invariant-loop-q l =
    record {
      count : length l.workers.items ≡ length l.initial.workers.items;
      row : length l.row.items ≡ l.q;
      same : (j : ℕ) (d : Worker) → j < length l.initial.workers.items
          → IsSameButInboxes (slice_index_or l.initial.workers.items j d) (slice_index_or l.workers.items j d);
      given : (j : ℕ) (d : Worker) → j < l.q
          → HasRow l.p (slice_index_or l.initial.workers.items l.p d).actions.items l.row.items j
          (slice_index_or l.initial.workers.items j d) (slice_index_or l.workers.items j d);
      rest : (j : ℕ) (d : Worker) → l.q ≤ j → j < length l.initial.workers.items
          → (slice_index_or l.workers.items j d).player.mailbox.inboxes.items
          ≡ (slice_index_or l.initial.workers.items j d).player.mailbox.inboxes.items;
    }
