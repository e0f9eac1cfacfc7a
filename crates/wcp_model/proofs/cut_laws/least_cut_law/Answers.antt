use Rattle.wcp_model.proofs.CutLaws.{least_from_decider}
use Rattle.wcp_model.proofs.Reached.{satisfying_decided}
use Rattle.wcp_model.proofs.cut_laws.least_cut_law.Goals as goal

pub returns : goal.returns
returns c = least_from_decider satisfying_decided
