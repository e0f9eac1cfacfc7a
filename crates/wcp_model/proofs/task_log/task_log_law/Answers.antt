use Rattle.wcp_model.proofs.LogsOfTasks.{task_log_law_holds}
use Rattle.wcp_model.proofs.task_log.task_log_law.Goals as goal

pub returns : goal.returns
returns c = task_log_law_holds
