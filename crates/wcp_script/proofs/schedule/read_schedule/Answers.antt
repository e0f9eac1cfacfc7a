use Rattle.wcp_script.proofs.Answered.{schedule_answered}
use Rattle.wcp_script.proofs.schedule.read_schedule.Goals as goal

pub returns : goal.returns
returns c =
    let all = schedule_answered _ _ c.read.ensures in
    record { spelled = all.0; checked = all.1; few = all.2; only = all.3; fault = all.4; refused = all.5 }
