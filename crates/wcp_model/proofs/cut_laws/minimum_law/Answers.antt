use Rattle.wcp_model.proofs.CutLaws.{minimum_is_satisfying}
use Rattle.wcp_model.proofs.cut_laws.minimum_law.Goals as goal

pub returns : goal.returns
returns c = minimum_is_satisfying
