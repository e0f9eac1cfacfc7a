-- The step lines of a workload.
use Rattle.std.specs.Prelude.{◌==◌, ◌&&◌, ℕ, Bool, true, false, not, List, [], ◌∷◌, nat_lt, Option, Some, None, Result}
use Rattle.std.specs.Prelude.{Ok, codes, if◌then◌else◌}
use Rattle.std.specs.Str.{bytes_eq}
use Rattle.std.specs.Option.{ok_or}
use Rattle.wcp_model.specs.declared.workload.Action.{Action}
use Rattle.wcp_model.specs.declared.workload.Action.TheVariants as action
use Rattle.wcp_model.specs.declared.workload.Task.{Task}
use Rattle.wcp_script.specs.declared.fault.FaultKind.{FaultKind}
use Rattle.wcp_script.specs.declared.fault.FaultKind.TheVariants as kind
use Rattle.wcp_script.specs.Lines.{TextLine, words_of}
use Rattle.wcp_script.specs.Judgement.{◌>>=◌, ask, number_in}

-- The step lines of a workload begin with `p`.
abbrev pub is_task_word : List ℕ → Bool
is_task_word word = bytes_eq word (codes "p")

-- A form of step lines, with words in the places of its numbers: `p I true` and `p I false`, `p I send J`, and
-- `p I recv J`.
pub data StepForm : Type 0 where
  Observes : List ℕ → Bool → StepForm
  Sends : List ℕ → List ℕ → StepForm
  Receives : List ℕ → List ℕ → StepForm

-- The form of an observation, by its word.
abbrev pub observation_form : List ℕ → List ℕ → Option StepForm
observation_form process keyword =
    if bytes_eq keyword (codes "true") then Some (Observes process true)
    else (if bytes_eq keyword (codes "false") then Some (Observes process false) else None)

-- The form of a send or a receive, by its word.
abbrev pub message_form : List ℕ → List ℕ → List ℕ → Option StepForm
message_form process keyword partner =
    if bytes_eq keyword (codes "send") then Some (Sends process partner)
    else (if bytes_eq keyword (codes "recv") then Some (Receives process partner) else None)

-- The form that the words of a line have, if they have one.
unfoldable pub form_of : List (List ℕ) → Option StepForm
form_of (first ∷ process ∷ keyword ∷ []) = if is_task_word first then observation_form process keyword else None
form_of (first ∷ process ∷ keyword ∷ partner ∷ []) =
    if is_task_word first then message_form process keyword partner else None
form_of words = None

-- The task of a step line, by its numbers.
abbrev pub task_of : StepForm → Result Task FaultKind
task_of (Observes process holds) = do
  p ← number_in process
  Ok (record { p = p; action = action.Observe holds })
task_of (Sends process partner) = do
  p ← number_in process
  to ← number_in partner
  Ok (record { p = p; action = action.Send to })
task_of (Receives process partner) = do
  p ← number_in process
  from ← number_in partner
  Ok (record { p = p; action = action.Recv from })

-- The partner of process p, if it has one, is another of the n processes.
abbrev pub has_partner : ℕ → ℕ → Action → Bool
has_partner n p (action.Observe holds) = true
has_partner n p (action.Send to) = nat_lt to n && not (to == p)
has_partner n p (action.Recv from) = nat_lt from n && not (from == p)

-- The task is one of the n processes, and so is its partner.
abbrev pub is_within : ℕ → Task → Bool
is_within n task = nat_lt task.p n && has_partner n task.p task.action

-- The task of a step line under n processes: the line has its LF and a form, its numbers are numbers, and its processes
-- are among the n.
unfoldable pub task_in : ℕ → TextLine → Result Task FaultKind
task_in n line = do
  form ← ok_or (if line.ended then form_of (words_of line.bytes) else None) kind.Line
  task ← task_of form
  _ ← ask (is_within n task) kind.Process
  Ok task
