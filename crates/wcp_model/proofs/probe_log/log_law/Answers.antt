use Rattle.wcp_model.proofs.probe_log.log_law.Goals as goal
use Rattle.wcp_model.proofs.RunningLog.{log_law_holds}

pub returns : goal.returns
returns c = log_law_holds
