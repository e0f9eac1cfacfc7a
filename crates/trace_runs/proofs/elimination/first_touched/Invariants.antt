use Rattle.std.proofs.Common.{◌≡◌, ◌<◌, ℕ, false}
use Rattle.std.specs.Prelude.{slice_index_or}
use Rattle.trace_runs.proofs.elimination.first_touched.Given as goal

abbrev pub invariant-loop-host : goal.invariant-loop-host
invariant-loop-host l = (p : ℕ) → p < l.host → slice_index_or l.touched p false ≡ false
