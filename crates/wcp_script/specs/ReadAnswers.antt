-- What reading a text answers.
use Rattle.std.specs.Prelude.{◌≡◌, ℕ, List, Option, Some, None, Result, Ok, Err}
use Rattle.std.specs.declared.vec.Vec.{Vec}
use Rattle.wcp_model.specs.declared.workload.Task.{Task}
use Rattle.wcp_model.specs.declared.workload.Workload.{Workload}
use Rattle.wcp_model.specs.WorkloadComputation.{IsFitOrder}
use Rattle.wcp_script.specs.declared.fault.ReadFault.{ReadFault}
use Rattle.wcp_script.specs.declared.fault.ReadFault.TheVariants.{Script, NoMemory}
use Rattle.wcp_script.specs.declared.fault.ScriptFault.{ScriptFault}
use Rattle.wcp_script.specs.declared.schedule.Schedule.{Schedule}
use Rattle.wcp_script.specs.declared.text.Text.{Text}
use Rattle.wcp_script.specs.declared.workload.OrderedWorkload.{OrderedWorkload}
use Rattle.wcp_script.specs.TextFault.{TextKind, workloads, schedules, Spells, HasTextFault, HasWorkloadFault}

-- A text was read as something of which this is so, unless memory ran out.
abbrev pub IsReadAs : {X : Type 0} → (X → Type 0) → Result X ReadFault → Type 0
IsReadAs is (Ok read) = is read
IsReadAs is (Err (Script fault)) = ⊥
IsReadAs is (Err NoMemory) = Unit {0}

-- The text was refused with this fault, unless memory ran out.
abbrev pub IsRefusedFor : {X : Type 0} → ScriptFault → Result X ReadFault → Type 0
IsRefusedFor fault (Ok read) = ⊥
IsRefusedFor fault (Err (Script given)) = given ≡ fault
IsRefusedFor fault (Err NoMemory) = Unit {0}

-- The fault is one of the text's, unless memory ran out.
abbrev pub IsFaultOf : (ScriptFault → Type 0) → ReadFault → Type 0
IsFaultOf has (Script fault) = has fault
IsFaultOf has NoMemory = Unit {0}

-- What a function failed with is the fault of the lines, unless memory ran out.
abbrev pub Fails : {Y : Type 0} → ReadFault → Result Y ScriptFault → Type 0
Fails NoMemory spelled = Unit {0}
Fails (Script fault) spelled = spelled ≡ Err fault

-- What a function returned, seen by view, is what the lines spell, or their fault, unless memory ran out.
abbrev pub Gives : {X Y : Type 0} → (X → Y) → Result X ReadFault → Result Y ScriptFault → Type 0
Gives view (Ok x) spelled = spelled ≡ Ok (view x)
Gives view (Err fault) spelled = Fails fault spelled

-- What reading a text answered, unless memory ran out: the plan and the steps that it spells, with the number of the
-- last line of its head, or its fault.
abbrev pub ReadsText : {S : Type 0} → TextKind S → List ℕ → Result (Text S) ReadFault → Type 0
ReadsText text_kind text (Ok read) =
    (spells : Spells text_kind text read.plan read.steps.items) × (spells.read.last ≡ read.last)
ReadsText text_kind text (Err fault) = IsFaultOf (HasTextFault text_kind text) fault

-- What reading the text of a schedule answered, unless memory ran out.
abbrev pub ReadsSchedule : List ℕ → Result Schedule ReadFault → Type 0
ReadsSchedule text (Ok schedule) = Spells schedules text schedule.plan schedule.steps.items
ReadsSchedule text (Err fault) = IsFaultOf (HasTextFault schedules text) fault

-- A workload was read: the text spells it, and its tasks have a fit order.
pub record IsRead (text : List ℕ) (workload : Workload) : Type 0 where
  pub spells : Spells workloads text workload.plan workload.tasks.items
  pub order : List Task
  pub fit : IsFitOrder workload.tasks.items order

-- What reading the text of a workload answered, unless memory ran out.
abbrev pub ReadsWorkload : List ℕ → Result Workload ReadFault → Type 0
ReadsWorkload text (Ok workload) = IsRead text workload
ReadsWorkload text (Err fault) = IsFaultOf (HasWorkloadFault text) fault

-- The fit order of the tasks of a workload that was read: that in which they are listed, where it has no other.
abbrev listed_or : {A : Type 0} → List Task → Option (Vec Task A) → List Task
listed_or tasks None = tasks
listed_or tasks (Some order) = order.items

abbrev pub order_of : OrderedWorkload → List Task
order_of ordered = listed_or ordered.workload.tasks.items ordered.order

-- A workload was read with a fit order of its tasks.
pub record IsReadInOrder (text : List ℕ) (ordered : OrderedWorkload) : Type 0 where
  pub spells : Spells workloads text ordered.workload.plan ordered.workload.tasks.items
  pub fit : IsFitOrder ordered.workload.tasks.items (order_of ordered)

-- What reading the text of a workload with a fit order answered, unless memory ran out.
abbrev pub ReadsInOrder : List ℕ → Result OrderedWorkload ReadFault → Type 0
ReadsInOrder text (Ok ordered) = IsReadInOrder text ordered
ReadsInOrder text (Err fault) = IsFaultOf (HasWorkloadFault text) fault
