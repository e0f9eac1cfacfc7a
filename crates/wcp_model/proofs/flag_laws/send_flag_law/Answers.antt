use Rattle.wcp_model.proofs.SendFlag.{send_flag_holds}
use Rattle.wcp_model.proofs.flag_laws.send_flag_law.Goals as goal

pub returns : goal.returns
returns c = send_flag_holds
