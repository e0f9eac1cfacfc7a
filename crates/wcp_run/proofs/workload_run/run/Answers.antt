use Rattle.wcp_run.proofs.Words.{List, get_or, slice_get-get_or, Plan, Task, Worker, WorkerEnd, IsEndOfWorker, Ends}
use Rattle.wcp_run.proofs.Words.{AreEndsOfRun, ArePartsOf}
use Rattle.std.proofs.lemmas.Result.{IfOk-weaker}
use Rattle.wcp_model.specs.PlanFault.{IsCheckedPlan}
use Rattle.wcp_model.specs.WorkloadComputation.{CouldBeRead}
use Rattle.wcp_watch.specs.declared.running.Parts.{Parts}
use Rattle.wcp_watch.specs.RunParts.{HaveEnded}
use Rattle.wcp_run.proofs.workload_run.run.Goals as goal

-- the ends of opened parts are those of the run
ends_of_run : {plan : Plan} {tasks : List Task} {parts : Parts Worker} {ends : Ends WorkerEnd}
    → CouldBeRead plan.n tasks → IsCheckedPlan plan
    → ArePartsOf plan tasks parts → HaveEnded IsEndOfWorker parts ends → AreEndsOfRun plan tasks ends
ends_of_run {parts = parts} read checked are ended =
    record { checked = checked; within = read.within; parts = parts; are = are; ended = ended }

pub run_parts-requires-after_bounds : goal.run_parts-requires-after_bounds
run_parts-requires-after_bounds g c κs within =
    let parts = c.in-Ok.ensures in
    let workers = c.in-Ok.parts.workers.items in
    record {
      workers = λ k d below. (parts.workers.each k (get_or workers k d) (slice_get-get_or workers k d below)).fresh;
      checking = parts.fresh;
    }

pub conclude-requires : goal.conclude-requires
conclude-requires g c = (_, _, ends_of_run c.requires.read c.requires.checked c.in-Ok.ensures c.in-Ok-run_parts.ensures)

pub returns-in-Ok-run_parts : goal.returns-in-Ok-run_parts
returns-in-Ok-run_parts g c = IfOk-weaker c.conclude.result _ _
    (λ outcome is. is _ _ (ends_of_run c.requires.read c.requires.checked c.in-Ok.ensures c.in-Ok-run_parts.ensures))
    c.conclude.ensures.outcome
