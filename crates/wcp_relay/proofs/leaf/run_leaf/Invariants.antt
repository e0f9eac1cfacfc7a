use Rattle.wcp_relay.specs.RelayWork.{IsLeafAtWork, AreSameFeeds, IsSameOutlet}
use Rattle.wcp_relay.proofs.leaf.run_leaf.Given as goal

abbrev pub invariant-loop : goal.invariant-loop
invariant-loop g l =
    record {
      goes_on : (goal.iterator-loop g).can_next l.iterator';
      ends : (goal.iterator-loop g).is_finite l.iterator';
      work : IsLeafAtWork l.feeds l.outlet;
      feeds : AreSameFeeds l.initial.feeds l.feeds;
      outlet : IsSameOutlet l.initial.outlet l.outlet;
    }
