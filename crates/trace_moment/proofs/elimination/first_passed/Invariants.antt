use Rattle.std.proofs.Common.{◌≡◌, ◌<◌, ℕ, false, slice_index}
use Rattle.trace_moment.specs.Kept.{kept_at, ends_below}
use Rattle.trace_moment.proofs.elimination.first_passed.Given as goal

abbrev pub invariant-loop-q : goal.invariant-loop-q
invariant-loop-q l = (p : ℕ) → p < l.q → ends_below (slice_index l.floors p) (kept_at l.queues p).ended ≡ false
