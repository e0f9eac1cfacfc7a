use Rattle.wcp_world.specs.WorldView.{state_of}
use Rattle.wcp_world.proofs.Histories.{world_after, reached_after}
use Rattle.wcp_world.proofs.world.World.step.Goals as goal

pub invariant_of-self : goal.invariant_of-self
invariant_of-self c = reached_after c.step.result (state_of c.self.inside.detector)
    (state_of c.step.new.self) c.args.step c.step.ensures.answered c.step.ensures.unchanged c.self.invariant

pub returns-clause-answered : goal.returns-clause-answered
returns-clause-answered c = rw (← c.self.view_is) (world_after c.step.result (state_of c.self.inside.detector)
    (state_of c.step.new.self) c.args.step c.step.ensures.answered)
