use Rattle.std.proofs.Common.{◌≡◌, ◌<◌, ℕ, true, slice_index}
use Rattle.trace_moment.specs.Kept.{kept_at, stands_at}
use Rattle.trace_moment.proofs.elimination.all_stand.Given as goal

abbrev pub invariant-loop-q : goal.invariant-loop-q
invariant-loop-q l = (p : ℕ) → p < l.q → stands_at (kept_at l.queues p) (slice_index l.floors p) ≡ true
