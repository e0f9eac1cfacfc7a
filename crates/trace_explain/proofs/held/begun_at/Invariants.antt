use Rattle.trace_explain.specs.Left.{HoldBetween}
use Rattle.trace_explain.proofs.held.begun_at.Given as goal

abbrev pub invariant-loop-from : goal.invariant-loop-from
invariant-loop-from l = HoldBetween l.events l.from l.at
