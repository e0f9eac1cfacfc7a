use Rattle.wcp_queue.proofs.Words.{◌≡◌, ℕ, ◌<◌, true, false, slice_index_or}
use Rattle.wcp_queue.proofs.sound.are_apart.Given as goal

abbrev pub invariant-loop-p : goal.invariant-loop-p
invariant-loop-p l =
    (q : ℕ) → q < l.p → slice_index_or l.lost q false ≡ true → slice_index_or l.closed q false ≡ false
