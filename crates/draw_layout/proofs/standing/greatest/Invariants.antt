use Rattle.draw_layout.proofs.Words.{ℕ, ◌<◌, ◌≤◌, slice_index}
use Rattle.draw_layout.proofs.standing.greatest.Given as goal

abbrev pub invariant-loop-column : goal.invariant-loop-column
invariant-loop-column l = record {
  above : (i : ℕ) → i < l.column-index → slice_index l.columns i ≤ l.greatest;
  one : (limit : ℕ) → ((i : ℕ) → slice_index l.columns i ≤ limit) → l.greatest ≤ limit;
}
