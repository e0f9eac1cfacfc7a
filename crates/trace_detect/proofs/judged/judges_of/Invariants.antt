use Rattle.trace_detect.proofs.Words.{◌≡◌, ◌<◌, ℕ, [], length, slice_index_or, Condition, Judged, Knows}
use Rattle.trace_detect.proofs.judged.judges_of.Given as goal

abbrev pub invariant-loop-condition : goal.invariant-loop-condition
invariant-loop-condition l = record {
  as_many : length l.judges.items ≡ l.condition-index;
  each : (p : ℕ) (c : Condition) (j : Judged) → p < l.condition-index
      → Knows l.conditions [] (slice_index_or l.conditions p c) (slice_index_or l.judges.items p j);
}
