use Rattle.trace_detect.proofs.Words.{◌≡◌, drop, condition_at}
use Rattle.trace_detect.proofs.watcher.place_of.Given as goal

abbrev pub invariant-loop-place : goal.invariant-loop-place
invariant-loop-place l = condition_at l.host l.conditions ≡ condition_at l.host (drop l.place l.conditions)
