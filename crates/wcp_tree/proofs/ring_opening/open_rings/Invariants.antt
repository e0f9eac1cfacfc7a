use Rattle.wcp_relay.specs.Rings.{AreRings}
use Rattle.wcp_tree.proofs.ring_opening.open_rings.Given as goal

abbrev pub invariant-loop-p : goal.invariant-loop-p
invariant-loop-p l = AreRings l.plan l.watch l.p l.probes.items l.takers.items
