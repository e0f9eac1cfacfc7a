use Rattle.std.proofs.Common.{◌≡◌, ◌<◌, ℕ, true, is_some}
use Rattle.trace_moment.specs.Kept.{kept_at, first_kept}
use Rattle.trace_moment.proofs.elimination.have_firsts.Given as goal

abbrev pub invariant-loop-q : goal.invariant-loop-q
invariant-loop-q l = (p : ℕ) → p < l.q → is_some (first_kept (kept_at l.queues p)) ≡ true
