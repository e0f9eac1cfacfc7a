use Rattle.trace_detect.proofs.Words.{List, take, Logged, Condition, AreJudges}
use Rattle.trace_detect.specs.Detection.{AllLog}
use Rattle.trace_detect.proofs.detection.first_silent.Given as goal

abbrev pub invariant-loop-place : goal.invariant-loop-place
invariant-loop-place l =
    (conditions : List Condition) (logged : List Logged) → AreJudges conditions logged l.judges
    → AllLog logged (take l.place conditions)
