use Rattle.std.proofs.Common.{◌≡◌, ℕ, ◌<◌, max, slice_index, length}
use Rattle.trace_order.proofs.next_clock.greatest.Given as goal

abbrev pub invariant-loop-i : goal.invariant-loop-i
invariant-loop-i l = record {
  length_is : length l.clock.items ≡ l.i;
  numbers : (k : ℕ) → k < l.i → slice_index l.clock.items k ≡ max (slice_index l.before k) (slice_index l.sender k);
}
