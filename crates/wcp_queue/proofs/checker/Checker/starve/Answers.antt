use Rattle.wcp_queue.specs.CheckerView.{checker_state}
use Rattle.wcp_queue.proofs.StandingForItems.{StandsForItems-starved}
use Rattle.wcp_queue.proofs.checker.Checker.starve.Goals as goal

pub returns-clause-stands : goal.returns-clause-stands
returns-clause-stands c = rw (← c.self.view_is) (StandsForItems-starved (checker_state c.self.inside))
