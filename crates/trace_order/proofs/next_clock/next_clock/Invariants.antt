use Rattle.std.proofs.Common.{◌≡◌, ℕ, ◌+◌, ◌-◌, ◌≤◌, max, slice_index, length}
use Rattle.trace_order.proofs.next_clock.next_clock.Given as goal

abbrev pub invariant-loop-clock : goal.invariant-loop-clock
invariant-loop-clock l = record {
  numbers : (i : ℕ) → slice_index l.clock.items i ≡ slice_index l.initial.clock.items i;
  least : length l.initial.clock.items ≤ length l.clock.items;
  most : length l.clock.items ≤ max (length l.initial.clock.items) (l.host + 1);
}

abbrev pub decreases-loop-clock : goal.decreases-loop-clock
decreases-loop-clock l = l.host + 1 - length l.clock.items
