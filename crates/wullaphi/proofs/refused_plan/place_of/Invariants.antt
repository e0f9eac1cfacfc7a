use Rattle.std.proofs.Common.{ℕ, ◌<◌}
use Rattle.wullaphi.specs.Refused.{HasFaultAt}
use Rattle.wullaphi.proofs.refused_plan.place_of.Given as goal

abbrev pub invariant-loop-place : goal.invariant-loop-place
invariant-loop-place l = (before : ℕ) → before < l.place → ¬ HasFaultAt l.plan l.fault before
