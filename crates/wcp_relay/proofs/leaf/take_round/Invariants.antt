use Rattle.wcp_relay.specs.RelayWork.{IsLeafAtWork, AreSameFeeds, IsSameOutlet}
use Rattle.wcp_relay.proofs.leaf.take_round.Given as goal

abbrev pub invariant-loop-place : goal.invariant-loop-place
invariant-loop-place g l =
    record {
      work : IsLeafAtWork l.feeds l.outlet;
      feeds : AreSameFeeds l.initial.feeds l.feeds;
      outlet : IsSameOutlet l.initial.outlet l.outlet;
    }
