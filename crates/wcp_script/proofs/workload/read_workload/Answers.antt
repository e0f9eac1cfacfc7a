use Rattle.wcp_script.proofs.Answered.{some_watched_read, workload_answered}
use Rattle.wcp_script.proofs.workload.read_workload.Goals as goal

pub returns : goal.returns
returns c =
    let all = workload_answered _ _ c.read.ensures in
    record {
      spelled = all.0;
      could_be_read = all.1;
      checked = all.2;
      watched = some_watched_read c.read.result all.2;
      only = all.3;
      fault = all.4;
      refused = all.5;
    }
