use Rattle.std.proofs.Common.{◌≡◌}
use Rattle.wcp_worker.proofs.lane_ends.Inbox.take.Given as goal

abbrev pub invariant-loop : goal.invariant-loop
invariant-loop g l =
    record {
      goes_on : (goal.iterator-loop g).can_next l.iterator';
      ends : (goal.iterator-loop g).is_finite l.iterator';
      taker : l.self.taker ≡ l.initial.self.taker;
      due : l.self.due ≡ l.initial.self.due;
    }
