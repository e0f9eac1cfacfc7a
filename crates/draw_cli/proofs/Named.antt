-- What names give no picture.
use Rattle.std.proofs.Common.{ℕ, List, Option}
use Rattle.wcp_model.specs.declared.plan.Plan.{Plan}
use Rattle.wcp_model.specs.declared.workload.Task.{Task}
use Rattle.wcp_model.specs.WorkloadComputation.{CouldBeRead}
use Rattle.wcp_script.specs.TextFault.{workloads, Spells}
use Rattle.draw_cli.specs.SketchFaults.{IsNamesFault, IsWhy}
use Rattle.draw_cli.specs.Names.{IsMisnamed}
use Rattle.draw_cli.specs.declared.sketch_fault.SketchFault.{SketchFault}
use Rattle.draw_cli.specs.declared.sketch_fault.SketchFault.TheVariants as fault

-- The fault of names is why a text that spells a workload has no picture.
pub why_unnamed : (list : Option (List ℕ)) (text : List ℕ) (plan : Plan) (tasks : List Task)
    → Spells workloads text plan tasks → CouldBeRead plan.n tasks → (given : SketchFault)
    → IsNamesFault (IsMisnamed list plan.n) given → IsWhy list text given
why_unnamed list text plan tasks spells read (fault.Script given) is = absurd is
why_unnamed list text plan tasks spells read fault.Names is = record {
  plan = plan;
  tasks = tasks;
  spells = spells;
  could_be_read = read;
  misnamed = is;
}
why_unnamed list text plan tasks spells read fault.Memory is = tt
