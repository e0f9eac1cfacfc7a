use Rattle.std.proofs.Common.{arith}
use Rattle.wcp_worker.proofs.MatchedLanes.{all_matched}
use Rattle.wcp_worker.proofs.matched_lanes.match_lanes.Goals as goal

pub returns-clause-matched : goal.returns-clause-matched
returns-clause-matched c = all_matched c.args.mailboxes.items c.requires.lanes
    (λ a b a_below b_below. c.loop-p.invariant.1 a b (omega arith) b_below)
