use Rattle.trace_pairs.proofs.Words.{◌≡◌, ◌<◌, ℕ, length, slice_index_or, Search}
use Rattle.trace_pairs.specs.declared.hosts.MatchedHost.{MatchedHost}
use Rattle.trace_pairs.specs.Searching.{StandsWithNew}
use Rattle.trace_pairs.proofs.rows.row_of.Given as goal

abbrev pub invariant-loop-host : goal.invariant-loop-host
invariant-loop-host l = record {
  as_many : length l.searches.items ≡ l.host-index;
  each : (p : ℕ) (host : MatchedHost) (search : Search) → p < l.host-index
      → StandsWithNew l.lasting (slice_index_or l.hosts p host) l.name (slice_index_or l.searches.items p search);
}
