use Rattle.wcp_watch.proofs.Words.{◌≡◌, ◌<◌, ◌≤◌, ℕ, length, slice_get, option_flatten, most_processes}
use Rattle.wcp_watch.proofs.shares.are_posted.Given as goal

abbrev pub invariant-loop-p : goal.invariant-loop-p
invariant-loop-p l =
    record {
      posted : (p : ℕ) → p < l.p → option_flatten (slice_get l.book.shares p) ≡ slice_get l.tallies p;
      few : 0 < l.p → (length l.book.shares ≤ most_processes) × (length l.tallies ≤ most_processes);
    }
