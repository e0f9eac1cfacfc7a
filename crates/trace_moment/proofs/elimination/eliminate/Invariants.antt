use Rattle.std.proofs.Common.{◌≡◌, List, length}
use Rattle.std.specs.List.{sum_by}
use Rattle.trace_moment.specs.Moment.{Taken}
use Rattle.trace_moment.specs.Queues.{EventQueue}
use Rattle.trace_moment.specs.Kept.{AreKept, watched_in}
use Rattle.trace_moment.specs.Elimination.{AreLeft, AreUnderFloors, LastKnowsAll}
use Rattle.trace_moment.specs.Keeping.{KeepLeft}
use Rattle.trace_moment.proofs.elimination.eliminate.Given as goal

abbrev pub invariant-loop-place : goal.invariant-loop-place
invariant-loop-place l = record {
  left : (taken : List Taken) (all : List EventQueue) → AreKept l.initial.queues all → LastKnowsAll taken
      → AreLeft taken all l.initial.floors → AreUnderFloors all l.initial.floors
      → KeepLeft taken all l.queues l.floors;
  watched : watched_in l.queues ≡ watched_in l.initial.queues;
}

abbrev pub decreases-loop-place : goal.decreases-loop-place
decreases-loop-place l = sum_by (λ queue. length queue.ended) l.queues
