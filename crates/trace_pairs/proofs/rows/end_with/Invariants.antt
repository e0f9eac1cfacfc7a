use Rattle.trace_pairs.proofs.Words.{◌<◌, ℕ}
use Rattle.trace_pairs.specs.Rows.{HasNone, SameSearches}
use Rattle.trace_pairs.proofs.rows.end_with.Given as goal

abbrev pub invariant-loop-second : goal.invariant-loop-second
invariant-loop-second l = record {
  same : SameSearches l.fn.rows l.rows;
  before : (q : ℕ) → l.first < q → q < l.second → HasNone l.fn.rows l.first q;
}
