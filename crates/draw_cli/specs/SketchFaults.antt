use Rattle.std.specs.Prelude.{ℕ, List, Option}
use Rattle.wcp_model.specs.declared.plan.Plan.{Plan}
use Rattle.wcp_model.specs.declared.workload.Task.{Task}
use Rattle.wcp_model.specs.WorkloadComputation.{CouldBeRead}
use Rattle.wcp_script.specs.declared.fault.ReadFault.{ReadFault}
use Rattle.wcp_script.specs.declared.fault.ReadFault.TheVariants as read
use Rattle.wcp_script.specs.TextFault.{workloads, Spells, HasWorkloadFault}
use Rattle.draw_cli.specs.Names.{IsMisnamed}
use Rattle.draw_cli.specs.declared.sketch_fault.SketchFault.{SketchFault}
use Rattle.draw_cli.specs.declared.sketch_fault.SketchFault.TheVariants as fault

-- The fault of a text that can't be read.
abbrev pub fault_of_read : ReadFault → SketchFault
fault_of_read (read.Script given) = fault.Script given
fault_of_read read.NoMemory = fault.Memory

-- A text spells a workload that could be read, whose processes a list doesn't name.
pub record IsNotNamed (list : Option (List ℕ)) (text : List ℕ) : Type 0 where
  pub plan : Plan
  pub tasks : List Task
  pub spells : Spells workloads text plan tasks
  pub could_be_read : CouldBeRead plan.n tasks
  pub misnamed : IsMisnamed list plan.n

-- A fault is why a text has no picture with these names: its own, or that of the names; or memory ran out.
abbrev pub IsWhy : Option (List ℕ) → List ℕ → SketchFault → Type 0
IsWhy list text (fault.Script given) = HasWorkloadFault text given
IsWhy list text fault.Names = IsNotNamed list text
IsWhy list text fault.Memory = Unit {0}

-- A fault is that of names, of which this holds then; or memory ran out.
abbrev pub IsNamesFault : Type 0 → SketchFault → Type 0
IsNamesFault P (fault.Script given) = ⊥
IsNamesFault P fault.Names = P
IsNamesFault P fault.Memory = Unit {0}
