use Rattle.std.proofs.Common.{◌≢◌, ◌<◌, ℕ}
use Rattle.trace_runs.specs.Kept.{IsSettled}
use Rattle.trace_runs.proofs.elimination.first_passed.Given as goal

abbrev pub invariant-loop-other : goal.invariant-loop-other
invariant-loop-other l = (p : ℕ) → p < l.other → p ≢ l.host → IsSettled l.queues l.host p × IsSettled l.queues p l.host
