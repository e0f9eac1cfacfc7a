use Rattle.trace_asking.proofs.Words.{take}
use Rattle.trace_asking.specs.Asking.{NoneAt}
use Rattle.trace_asking.proofs.asked.first_at.Given as goal

abbrev pub invariant-loop-place : goal.invariant-loop-place
invariant-loop-place l = NoneAt l.stage (take l.place l.asked)
