use Rattle.trace_detect.proofs.Words.{◌≡◌, ◌++◌, List, drop, map, Logged, AreJudges}
use Rattle.trace_detect.specs.Told.{count_of, seen_count}
use Rattle.trace_detect.proofs.told.counts_of.Given as goal

abbrev pub invariant-loop-place : goal.invariant-loop-place
invariant-loop-place l = (logged : List Logged) → AreJudges l.conditions logged l.judges
    → map seen_count l.counts.items ++ map (count_of l.conditions logged) (drop l.place l.conditions)
    ≡ map (count_of l.conditions logged) l.conditions
