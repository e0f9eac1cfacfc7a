use Rattle.std.specs.Prelude.{◌≡◌, ◌<◌, ◌≤◌, ◌⊎◌, ℕ, List, [], ◌∷◌, ◌++◌, codes, length}
use Rattle.wcp_model.specs.declared.outcome.Outcome.{Outcome}
use Rattle.wcp_model.specs.declared.plan.Plan.{Plan}
use Rattle.wcp_model.specs.declared.workload.Task.{Task}
use Rattle.wcp_model.specs.WorkloadOutcome.{IsWorkloadOutcome}
use Rattle.wcp_model.specs.Verdict.{status_of}
use Rattle.wcp_model.specs.WorkloadComputation.{CouldBeRead}
use Rattle.wcp_report.specs.ReportText.{outcome_text}
use Rattle.wcp_script.specs.FaultText.{fault_text}
use Rattle.wcp_script.specs.Lines.{line_feed}
use Rattle.wcp_script.specs.TextFault.{workloads, HasWorkloadFault, Spells}
use Rattle.wcp_script.specs.declared.fault.ScriptFault.{ScriptFault}
use Rattle.wcp_c.specs.Answers.{no_room}

-- The answer to the text of a workload: its outcome, printed, with the status of the report.
pub record IsSingleAnswer (text printed : List ℕ) (status : ℕ) : Type 0 where
  pub plan : Plan
  pub tasks : List Task
  pub outcome : Outcome
  pub spelled : Spells workloads text plan tasks
  pub could_be_read : CouldBeRead plan.n tasks
  pub right : IsWorkloadOutcome plan.n plan.watched plan.flag tasks outcome
  pub print : printed ≡ outcome_text outcome
  pub status_is : status ≡ status_of outcome.report

-- The line that says which fault a text has.
abbrev pub fault_line : ScriptFault → List ℕ
fault_line fault = codes "wcpwatch: " ++ (fault_text fault ++ line_feed ∷ [])

-- What an answer to a text wants room for: the outcome, printed, or the line that says which fault the text has.
pub data IsWanted (text : List ℕ) (room : ℕ) : Type 0 where
  Printed : (printed : List ℕ) (status : ℕ) → IsSingleAnswer text printed status → room ≡ length printed
      → IsWanted text room
  Faulty : (fault : ScriptFault) → HasWorkloadFault text fault → room ≡ length (fault_line fault) → IsWanted text room

-- The answer where a text of so many bytes is to be put into so much room.
abbrev pub IsAnswered : ℕ → ℕ → ℕ → ℕ → Type 0
IsAnswered bytes room status answer =
    ((bytes ≤ room) × (answer ≡ status)) ⊎ ((room < bytes) × (answer ≡ no_room))

-- The line that says that a text is longer than the program reads.
abbrev pub too_large_line : List ℕ
too_large_line = codes "wcpwatch: toolarge" ++ line_feed ∷ []
