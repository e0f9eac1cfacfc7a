use Rattle.std.specs.Prelude.{◌≡◌, ℕ, Bool, List, [], ◌∷◌, ◌++◌, string_bytes, codes}
use Rattle.std.specs.List.{flat_map}
use Rattle.std.specs.Io.KnownBytes.{Keeps}
use Rattle.wcp_io.specs.Input.{IsInput, Known}
use Rattle.wcp_model.specs.declared.outcome.Outcome.{Outcome}
use Rattle.wcp_model.specs.declared.plan.Plan.{Plan}
use Rattle.wcp_model.specs.declared.step.Reply.{Reply}
use Rattle.wcp_model.specs.declared.step.Step.{Step}
use Rattle.wcp_model.specs.declared.workload.Task.{Task}
use Rattle.wcp_model.specs.WorkloadOutcome.{IsWorkloadOutcome}
use Rattle.wcp_model.specs.Verdict.{status_of}
use Rattle.wcp_model.specs.WorkloadComputation.{CouldBeRead}
use Rattle.wcp_report.specs.ReplayText.{replay_text}
use Rattle.wcp_report.specs.ReportText.{outcome_text}
use Rattle.wcp_script.specs.Lines.{line_feed}
use Rattle.wcp_script.specs.PlanText.{opening_text}
use Rattle.wcp_script.specs.Ring.{ring_tasks}
use Rattle.wcp_script.specs.TextFault.{schedules, workloads, Spells}
use Rattle.wcp_script.specs.WorkloadText.{task_line}
use Rattle.wcp_world.specs.Plays.{IsPlayed}
use Rattle.wcp_cli.specs.declared.words.Request.{Request}
use Rattle.wcp_cli.specs.declared.words.Request.TheVariants.{Single, Run, Replay, Ring, Help, Version, Unknown}

-- The answer to the text of a workload: its outcome, printed, with the status of the report.
pub record IsOutcomeAnswer (text printed : List ℕ) (status : ℕ) : Type 0 where
  pub plan : Plan
  pub tasks : List Task
  pub outcome : Outcome
  pub spelled : Spells workloads text plan tasks
  pub could_be_read : CouldBeRead plan.n tasks
  pub right : IsWorkloadOutcome plan.n plan.watched plan.flag tasks outcome
  pub print : printed ≡ outcome_text outcome
  pub status_is : status ≡ status_of outcome.report

-- The answer to the text of a schedule: a line for the reply to each step, and the outcome so far, with the status of
-- the report.
pub record IsReplayAnswer (text printed : List ℕ) (status : ℕ) : Type 0 where
  pub plan : Plan
  pub steps : List Step
  pub replies : List Reply
  pub outcome : Outcome
  pub spelled : Spells schedules text plan steps
  pub played : IsPlayed plan steps replies outcome.report outcome.tallies
  pub print : printed ≡ replay_text replies outcome
  pub status_is : status ≡ status_of outcome.report

-- The text of a ring workload: two lines of head, and a line for each task.
abbrev pub ring_text : ℕ → ℕ → Bool → List ℕ
ring_text n rounds fault = opening_text n ++ flat_map task_line (ring_tasks n rounds fault)

-- The answer to a request for the version: the program's name and version, and the toolchain that it is proved with,
-- a line each.
abbrev pub version_text : List ℕ
version_text = codes "wcpwatch 0.3.0" ++ line_feed ∷ codes "rattle-kit-13f logic dac8208d650f15bf" ++ line_feed ∷ []

-- The answer to a request is printed, with its status. `single`, `run` and `replay` answer to their whole input, the
-- first two alike, and the others read nothing: a ring's answer is its text, the answer to a request for help is the
-- text that it carries, and the answer to one for the version is the same each time.
abbrev pub IsAnswerTo : Request → Known → Known → List ℕ → ℕ → Type 0
IsAnswerTo Single input input_after printed status =
    (text : List ℕ) × IsInput input input_after text × IsOutcomeAnswer text printed status
IsAnswerTo Run input input_after printed status =
    (text : List ℕ) × IsInput input input_after text × IsOutcomeAnswer text printed status
IsAnswerTo Replay input input_after printed status =
    (text : List ℕ) × IsInput input input_after text × IsReplayAnswer text printed status
IsAnswerTo (Ring ring) input input_after printed status =
    Keeps input input_after × (printed ≡ ring_text ring.procs ring.rounds ring.fault) × (status ≡ 0)
IsAnswerTo (Help text) input input_after printed status =
    Keeps input input_after × (printed ≡ string_bytes text) × (status ≡ 0)
IsAnswerTo Version input input_after printed status =
    Keeps input input_after × (printed ≡ version_text) × (status ≡ 0)
IsAnswerTo Unknown input input_after printed status = ⊥

-- What a request may read, answered or not: `single`, `run` and `replay` their input, the others nothing.
abbrev pub Reads : Request → Known → Known → Type 0
Reads Single input input_after = Unit {0}
Reads Run input input_after = Unit {0}
Reads Replay input input_after = Unit {0}
Reads _ input input_after = Keeps input input_after
