use Rattle.wcp_world.specs.Plays.{AreTalliesOf}
use Rattle.wcp_world.proofs.plays.tallies.Given as goal

abbrev pub invariant-loop-p : goal.invariant-loop-p
invariant-loop-p l = AreTalliesOf l.world l.p l.tallies.items
