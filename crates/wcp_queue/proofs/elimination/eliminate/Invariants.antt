use Rattle.wcp_queue.proofs.Words.{◌≡◌, ◌+◌, ◌*◌, ◌≤◌, length, waiting_in, tests_each, Eliminates}
use Rattle.wcp_queue.proofs.elimination.eliminate.Given as goal

abbrev pub invariant-loop-p : goal.invariant-loop-p
invariant-loop-p l = record {
  rows : length l.queues ≡ length l.initial.queues;
  left : Eliminates l.initial.queues l.initial.floor l.queues l.floor;
  tests : l.floor.tests + tests_each (length l.initial.queues) * waiting_in
      l.queues ≤ l.initial.floor.tests + tests_each (length l.initial.queues) * waiting_in l.initial.queues;
}

abbrev pub decreases-loop-p : goal.decreases-loop-p
decreases-loop-p l = waiting_in l.queues
