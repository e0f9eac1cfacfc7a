use Rattle.std.proofs.Common.{◌<◌, ℕ}
use Rattle.trace_runs.specs.Kept.{StandsAt}
use Rattle.trace_runs.proofs.standing.all_stand.Given as goal

abbrev pub invariant-loop-q : goal.invariant-loop-q
invariant-loop-q l = (p : ℕ) → p < l.q → StandsAt l.queues p
