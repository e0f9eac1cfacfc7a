use Rattle.std.specs.Prelude.{◌≡◌}
use Rattle.wullaphi.proofs.watched_queue.WatchedQueue.put.Given as goal

abbrev pub invariant-loop : goal.invariant-loop
invariant-loop g l =
    record {
      goes_on : (goal.iterator-loop g).can_next l.iterator';
      ends : (goal.iterator-loop g).is_finite l.iterator';
      probe : l.probe ≡ l.initial.probe;
      value : l.value ≡ l.initial.value;
    }
