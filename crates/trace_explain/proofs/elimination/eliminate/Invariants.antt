use Rattle.std.proofs.Common.{◌-◌, List, length}
use Rattle.std.specs.List.{sum_by}
use Rattle.trace_moment.specs.Moment.{HostWatch, Taken}
use Rattle.trace_explain.specs.History.{AreInOrder}
use Rattle.trace_explain.specs.Left.{AreLeft}
use Rattle.trace_explain.proofs.elimination.eliminate.Given as goal

abbrev pub invariant-loop-over : goal.invariant-loop-over
invariant-loop-over l = (watched : List HostWatch) (taken : List Taken) → AreInOrder taken
    → AreLeft watched taken l.initial.left → AreLeft watched taken l.left

abbrev pub decreases-loop-over : goal.decreases-loop-over
decreases-loop-over l = sum_by (λ one. length one.host.events - one.front) l.left
