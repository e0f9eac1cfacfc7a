use Rattle.wcp_watch.specs.Matching.{AreEndsThere}
use Rattle.wcp_watch.proofs.MatchedLinks.{HaveMatched}
use Rattle.wcp_watch.proofs.matching.match_links.Given as goal

abbrev pub invariant-loop-number : goal.invariant-loop-number
invariant-loop-number l =
    (there : AreEndsThere l.count l.fn.probes l.fn.root l.fn.relays)
    → HaveMatched there l.number l.relays l.probes l.inboxes
