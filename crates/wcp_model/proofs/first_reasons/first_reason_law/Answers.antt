use Rattle.wcp_model.proofs.FirstReasons.{first_reason_is}
use Rattle.wcp_model.proofs.first_reasons.first_reason_law.Goals as goal

pub returns : goal.returns
returns g c = first_reason_is
