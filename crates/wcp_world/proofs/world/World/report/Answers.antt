use Rattle.wcp_world.specs.WorldView.{state_of}
use Rattle.wcp_world.proofs.Histories.{report_holds}
use Rattle.wcp_world.proofs.world.World.report.Goals as goal

pub returns : goal.returns
returns c = rw (← c.self.view_is) (λ plan history is. report_holds plan history
    (state_of c.self.inside.detector) c.report.result is (c.report.ensures.exact is.stands.not_starved))
