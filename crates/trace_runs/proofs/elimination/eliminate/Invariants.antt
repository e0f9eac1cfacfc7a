use Rattle.std.proofs.Common.{◌≡◌, ◌+◌, ◌*◌, List, cond, length}
use Rattle.std.specs.List.{sum_by}
use Rattle.trace_moment.specs.Moment.{Taken}
use Rattle.trace_runs.specs.Kept.{NoneIsPassedBut, watched_in}
use Rattle.trace_runs.specs.Keeping.{KeepWaiting}
use Rattle.trace_runs.proofs.KeptTouched.{AreSettledBut}
use Rattle.trace_runs.proofs.elimination.eliminate.Given as goal

abbrev pub invariant-loop-host : goal.invariant-loop-host
invariant-loop-host l = record {
  in_step : length l.touched ≡ length l.queues;
  settled : NoneIsPassedBut l.fn.place l.fn.queues → AreSettledBut l.touched l.queues;
  waiting : (taken : List Taken) → KeepWaiting taken l.fn.queues → KeepWaiting taken l.queues;
  watched : watched_in l.queues ≡ watched_in l.fn.queues;
}

abbrev pub decreases-loop-host : goal.decreases-loop-host
decreases-loop-host l =
    2 * sum_by (λ queue. length queue.over) l.queues + sum_by (λ is. cond is 1 0) l.touched
