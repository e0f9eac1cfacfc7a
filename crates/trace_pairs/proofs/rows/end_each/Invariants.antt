use Rattle.trace_pairs.proofs.Words.{◌<◌, ℕ, length}
use Rattle.trace_pairs.specs.Rows.{HasNone, SameSearches}
use Rattle.trace_pairs.proofs.rows.end_each.Given as goal

abbrev pub invariant-loop-first : goal.invariant-loop-first
invariant-loop-first l = record {
  same : SameSearches l.fn.rows l.rows;
  before : (p q : ℕ) → p < l.first → p < q → q < length l.fn.rows → HasNone l.fn.rows p q;
}
