use Rattle.wcp_model.proofs.GrowthLaws.{early_find_holds}
use Rattle.wcp_model.proofs.growth_laws.early_find_law.Goals as goal

pub returns : goal.returns
returns c = early_find_holds
