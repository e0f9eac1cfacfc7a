use Rattle.trace_pairs.proofs.Words.{◌≡◌, ◌<◌, ℕ, slice_index_or}
use Rattle.std.specs.Prelude.{string_bytes}
use Rattle.trace_pairs.specs.declared.hosts.MatchedHost.{MatchedHost}
use Rattle.trace_pairs.proofs.hosts.place_of.Given as goal

abbrev pub invariant-loop-place : goal.invariant-loop-place
invariant-loop-place l = (p : ℕ) (host : MatchedHost) → p < l.place →
    string_bytes (slice_index_or l.hosts p host).name ≡ l.name → ⊥
