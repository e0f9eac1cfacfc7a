use Rattle.std.proofs.Common.{◌≡◌, ◌<◌, ℕ, true, is_some}
use Rattle.trace_runs.specs.Kept.{kept_at, first_begin}
use Rattle.trace_runs.proofs.standing.have_firsts.Given as goal

abbrev pub invariant-loop-q : goal.invariant-loop-q
invariant-loop-q l = (p : ℕ) → p < l.q → is_some (first_begin (kept_at l.queues p)) ≡ true
