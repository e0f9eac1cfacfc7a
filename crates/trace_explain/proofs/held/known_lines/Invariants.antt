use Rattle.std.proofs.Common.{◌≡◌, ◌<◌, ℕ, None, length, slice_index}
use Rattle.std.specs.Prelude.{slice_index_or}
use Rattle.trace_explain.specs.Left.{IsKnownLine, left_at}
use Rattle.trace_explain.proofs.held.known_lines.Given as goal

abbrev pub invariant-loop-place : goal.invariant-loop-place
invariant-loop-place l = record {
  as_many : length l.knows.items ≡ l.place;
  each : (q : ℕ) → q < l.place → IsKnownLine (left_at l.left q).host.events q
      (slice_index l.event.numbers q) (slice_index_or l.knows.items q None);
}
