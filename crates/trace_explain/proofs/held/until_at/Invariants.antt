use Rattle.std.proofs.Common.{◌+◌}
use Rattle.trace_explain.specs.Left.{HoldBetween}
use Rattle.trace_explain.proofs.held.until_at.Given as goal

abbrev pub invariant-loop-k : goal.invariant-loop-k
invariant-loop-k l = HoldBetween l.events (l.at + 1) l.k
