use Rattle.std.proofs.Common.{◌≡◌, ◌≢◌, ◌<◌, ◌≤◌, ℕ, max, slice_index}
use Rattle.trace_moment.specs.Kept.{kept_at, prefix_numbers}
use Rattle.trace_moment.proofs.elimination.raise.Given as goal

abbrev pub invariant-loop-q : goal.invariant-loop-q
invariant-loop-q l = record {
  below : (q : ℕ) → q < l.q → q ≢ l.place → slice_index l.floors q
      ≡ max (slice_index (prefix_numbers (kept_at l.queues l.place)) q) (slice_index l.initial.floors q);
  above : (q : ℕ) → l.q ≤ q → slice_index l.floors q ≡ slice_index l.initial.floors q;
  itself : slice_index l.floors l.place ≡ slice_index l.initial.floors l.place;
}
