-- What a text spells, or which fault it has: lines are judged from the top, and the first fault is the text's.
use Rattle.std.specs.Prelude.{◌≡◌, ℕ, ◌+◌, Bool, List, [], ◌∷◌, ◌++◌, length, nat_lt, Result, Ok, Err}
use Rattle.wcp_clock.specs.Limits.{most_steps}
use Rattle.wcp_model.specs.declared.plan.Plan.{Plan}
use Rattle.wcp_model.specs.declared.plan.PlanFault.{PlanFault}
use Rattle.wcp_model.specs.declared.step.Step.{Step}
use Rattle.wcp_model.specs.declared.workload.Task.{Task}
use Rattle.wcp_model.specs.PlanFault.{HasFault, IsCheckedPlan}
use Rattle.wcp_order.specs.Stuck.{IsStuckAt}
use Rattle.wcp_script.specs.declared.fault.FaultKind.{FaultKind}
use Rattle.wcp_script.specs.declared.fault.FaultKind.TheVariants as kind
use Rattle.wcp_script.specs.declared.fault.ScriptFault.{ScriptFault}
use Rattle.wcp_script.specs.Lines.{TextLine}
use Rattle.wcp_script.specs.Judgement.{◌>>=◌, ask, at_line}
use Rattle.wcp_script.specs.Head.{HeadRead, head_of, IsPlanOf}
use Rattle.wcp_script.specs.WorkloadLines.{is_task_word, task_in}
use Rattle.wcp_script.specs.ScheduleLines.{is_schedule_word, step_in}

-- A kind of text: the words that its step lines begin with, and what such a line says under n processes.
pub record TextKind (S : Type 0) : Type 0 where
  pub is_step_word : List ℕ → Bool
  pub said : ℕ → TextLine → Result S FaultKind

abbrev pub workloads : TextKind Task
workloads = record { is_step_word = is_task_word; said = task_in }

abbrev pub schedules : TextKind Step
schedules = record { is_step_word = is_schedule_word; said = λ n line. step_in line }

-- A line behind this many step lines, of which a text may have 65,536.
abbrev pub step_after : {S : Type 0} → TextKind S → ℕ → ℕ → TextLine → Result S FaultKind
step_after text_kind n earlier line = do
  step ← text_kind.said n line
  _ ← ask (nat_lt earlier most_steps) kind.TooLong
  Ok step

-- The steps of the lines after a head with this last line, the first of them behind this many step lines.
unfoldable pub steps_by : {S : Type 0} → TextKind S → ℕ → ℕ → ℕ → List TextLine → Result (List S) ScriptFault
steps_by text_kind n last earlier [] = Ok []
steps_by text_kind n last earlier (line ∷ lines) = do
  step ← at_line (last + earlier + 1) (step_after text_kind n earlier line)
  steps ← steps_by text_kind n last (earlier + 1) lines
  Ok (step ∷ steps)

-- These steps, and behind them those of lines after a head with this last line.
unfoldable pub steps_behind : {S : Type 0} → TextKind S → ℕ → ℕ → List S → List TextLine
    → Result (List S) ScriptFault
steps_behind text_kind n last front lines = do
  steps ← steps_by text_kind n last (length front) lines
  Ok (front ++ steps)

-- The text spells these steps under this plan, which has no fault.
pub record Spells {S : Type 0} (text_kind : TextKind S) (text : List ℕ) (plan : Plan) (steps : List S) : Type 0 where
  pub read : HeadRead
  pub head : head_of text_kind.is_step_word text ≡ Ok read
  pub plan_of_head : IsPlanOf read.head plan
  pub checked : IsCheckedPlan plan
  pub lines : steps_by text_kind read.head.n read.last 0 read.after ≡ Ok steps

-- The fault of a text: that of a line of its head; or else that of the plan, at the head's last line; or else that of a
-- step line.
pub data HasTextFault {S : Type 0} (text_kind : TextKind S) (text : List ℕ) (fault : ScriptFault) : Type 0 where
  InHead : head_of text_kind.is_step_word text ≡ Err fault → HasTextFault text_kind text fault
  OfPlan : (read : HeadRead) (plan : Plan) (first : PlanFault)
      → head_of text_kind.is_step_word text ≡ Ok read → IsPlanOf read.head plan → HasFault plan first
      → fault ≡ record { line = read.last; kind = kind.Plan } → HasTextFault text_kind text fault
  InStep : (read : HeadRead) (plan : Plan)
      → head_of text_kind.is_step_word text ≡ Ok read → IsPlanOf read.head plan → IsCheckedPlan plan
      → steps_by text_kind read.head.n read.last 0 read.after ≡ Err fault → HasTextFault text_kind text fault

-- The fault of the text of a workload: that of its lines or its plan; or else that the step of a line is the first that
-- can never be done.
pub data HasWorkloadFault (text : List ℕ) (fault : ScriptFault) : Type 0 where
  InText : HasTextFault workloads text fault → HasWorkloadFault text fault
  AtEnd : (plan : Plan) (tasks : List Task) (spells : Spells workloads text plan tasks) (place : ℕ)
      → IsStuckAt tasks place → fault ≡ record { line = spells.read.last + place + 1; kind = kind.Stuck }
      → HasWorkloadFault text fault
