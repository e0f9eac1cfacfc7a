use Rattle.wcp_tree.proofs.OpeningRings.{AreTaken}
use Rattle.wcp_tree.proofs.ring_opening.take_feeds.Given as goal

abbrev pub invariant-loop-p : goal.invariant-loop-p
invariant-loop-p l = AreTaken l.plan l.leaf l.initial.takers.items l.takers.items l.p l.feeds.items
