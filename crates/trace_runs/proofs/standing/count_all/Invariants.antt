use Rattle.std.proofs.Common.{◌≡◌, ◌≢◌, ◌<◌, ℕ, true, slice_index}
use Rattle.trace_runs.specs.Kept.{kept_at, first_begin, is_counted}
use Rattle.trace_runs.proofs.standing.count_all.Given as goal

abbrev pub invariant-loop-p : goal.invariant-loop-p
invariant-loop-p l = (p : ℕ) → p < l.p → p ≢ l.q →
    is_counted (first_begin (kept_at l.queues p)) (slice_index l.numbers p) ≡ true
