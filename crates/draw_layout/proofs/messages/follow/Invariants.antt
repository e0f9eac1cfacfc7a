use Rattle.draw_layout.proofs.Words.{◌≡◌, ℕ, ◌<◌, length, slice_get, slice_index, Some, AreInTransit, IsSendOf, Task}
use Rattle.draw_layout.proofs.messages.follow.Given as goal

abbrev pub invariant-loop-place : goal.invariant-loop-place
invariant-loop-place l = record {
  in_transit : AreInTransit l.n l.order l.place l.in_transit;
  so_far : length l.sent.items ≡ l.place;
  sends : (k : ℕ) (task : Task) → k < l.place → slice_get l.order k ≡ Some task →
      IsSendOf l.order k task.action (slice_index l.sent.items k);
}
