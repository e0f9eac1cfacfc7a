use Rattle.trace_pairs.proofs.Words.{◌≡◌, ◌<◌, ℕ, length, slice_index_or}
use Rattle.std.specs.Prelude.{string_bytes}
use Rattle.trace_pairs.specs.declared.hosts.MatchedHost.{MatchedHost}
use Rattle.trace_pairs.specs.declared.moment.MatchedCount.{MatchedCount}
use Rattle.trace_pairs.specs.Searching.{IsCountOf}
use Rattle.trace_pairs.proofs.pair_search.PairSearch.counts.Given as goal

abbrev pub invariant-loop-host : goal.invariant-loop-host
invariant-loop-host l = record {
  as_many : length l.counts.items ≡ l.host-index;
  each : (p : ℕ) (host : MatchedHost) (count : MatchedCount) → p < l.host-index
      → IsCountOf (slice_index_or l.self.hosts.items p host) (slice_index_or l.counts.items p count);
}
