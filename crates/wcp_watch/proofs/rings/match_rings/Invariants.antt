use Rattle.std.proofs.Common.{vec_len}
use Rattle.wcp_watch.proofs.MatchedRings.{AreMatching}
use Rattle.wcp_watch.proofs.rings.match_rings.Given as goal

abbrev pub decreases-loop-feed : goal.decreases-loop-feed
decreases-loop-feed l = vec_len l.feeds

abbrev pub invariant-loop-feed : goal.invariant-loop-feed
invariant-loop-feed l = AreMatching l.initial.probes l.fn.feeds.items l.feeds.items l.probes
