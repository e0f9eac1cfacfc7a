use Rattle.wcp_model.proofs.clock_laws.states_have_clocks.Goals as goal
use Rattle.wcp_model.proofs.Reached.{happened_before_decided}
use Rattle.wcp_model.proofs.StateClocks.{clock_from_decision}

pub returns : goal.returns
returns c = clock_from_decision happened_before_decided
