use Rattle.wcp_model.proofs.GrowthLaws.{growth_holds}
use Rattle.wcp_model.proofs.growth_laws.growth_law.Goals as goal

pub returns : goal.returns
returns c = growth_holds
