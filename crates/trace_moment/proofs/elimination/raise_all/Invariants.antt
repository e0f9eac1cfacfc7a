use Rattle.std.proofs.Common.{◌<◌, ℕ, List}
use Rattle.trace_moment.specs.Moment.{Taken}
use Rattle.trace_moment.specs.Queues.{EventQueue}
use Rattle.trace_moment.specs.Kept.{AreKept}
use Rattle.trace_moment.specs.Elimination.{AreLeft, IsUnderFloors, LastKnowsAll}
use Rattle.trace_moment.proofs.elimination.raise_all.Given as goal

abbrev pub invariant-loop-q : goal.invariant-loop-q
invariant-loop-q l = record {
  left : (taken : List Taken) (all : List EventQueue) → AreKept l.queues all → LastKnowsAll taken
      → AreLeft taken all l.initial.floors → AreLeft taken all l.floors;
  under : (all : List EventQueue) → AreKept l.queues all → (p : ℕ) → p < l.q → IsUnderFloors all l.floors p;
}
