use Rattle.wcp_model.proofs.SendFlag.{event_flag_holds}
use Rattle.wcp_model.proofs.flag_laws.event_flag_law.Goals as goal

pub returns : goal.returns
returns c = event_flag_holds
