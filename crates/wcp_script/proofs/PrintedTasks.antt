-- The line of a task is read as that task.
use Rattle.wcp_script.proofs.Words.{◌≡◌, ℕ, ◌+◌, ◌<◌, ◌≤◌, true, List, [], ◌∷◌, ◌++◌, length, Ok, refl, sym, ap, ◌∙◌}
use Rattle.wcp_script.proofs.Words.{append_assoc, arith, lt-ltb, codes, flat_map, AllByRecursion, decimal, Task}
use Rattle.wcp_script.proofs.Words.{IsWithin, TextLine, line_text, lines_of, action_words, task_words, task_line}
use Rattle.wcp_script.proofs.Words.{is_within, workloads}
use Rattle.wcp_model.specs.declared.workload.Action.{Action}
use Rattle.wcp_script.specs.WorkloadLines.{form_of, task_in}
use Rattle.wcp_script.specs.TextFault.{steps_behind, steps_by}
use Rattle.wcp_script.proofs.StepLines.{steps_behind_more}
use Rattle.wcp_script.proofs.LinesOfWords.{IsWord, IsWord-decimal, number_in-decimal, words_of-joined, worded}
use Rattle.wcp_script.proofs.LinesOfWords.{lines_of-line_text, lines_of_nothing}

pub task_is_words : (n : ℕ) (task : Task) → n ≤ 16 → IsWithin n task → AllByRecursion IsWord (task_words task)
task_is_words n task few within = grind (arith, IsWord-decimal)

is_within_from : (n : ℕ) (task : Task) → IsWithin n task → is_within n task ≡ true
is_within_from n task h = grind arith

task_in-worded : (n : ℕ) (task : Task) → n ≤ 16 → IsWithin n task → task_in n (worded (task_words task)) ≡ Ok task
unfolding task_in form_of
task_in-worded n task few within =
    grind (
      arith,
      words_of-joined (codes "p") (decimal task.p ∷ action_words task.action) (task_is_words n task few
          within),
      number_in-decimal,
      is_within_from n task within,
    )

pub lines_of-task_line : (n : ℕ) (task : Task) (rest : List ℕ) → n ≤ 16 → IsWithin n task
    → lines_of (task_line task ++ rest) ≡ worded (task_words task) ∷ lines_of rest
lines_of-task_line n task rest few within = lines_of-line_text (task_words task) rest (task_is_words n task few within)

-- The lines of tasks are read as these tasks.
pub steps_by-task_lines : (n last earlier : ℕ) (tasks : List Task) → n ≤ 16 → AllByRecursion (IsWithin n) tasks
    → earlier + length tasks ≤ 65536
    → steps_by workloads n last earlier (lines_of (flat_map task_line tasks)) ≡ Ok tasks
unfolding steps_by
steps_by-task_lines n last earlier [] few within room = rw lines_of_nothing refl
steps_by-task_lines n last earlier (task ∷ tasks) few within room =
    grind (
      arith,
      lines_of-task_line,
      lt-ltb,
      task_in-worded,
      steps_by-task_lines n last (earlier + 1) tasks few within.1 (omega arith),
    )

-- So the first line of a text that begins with the line of a task says that task.
pub task_is_said : (n : ℕ) (task : Task) (text rest : List ℕ) → text ≡ task_line task ++ rest → IsWithin n task → n ≤ 16
    → (line : TextLine) × (lines_of text ≡ line ∷ lines_of rest) × (Ok task ≡ task_in n line)
task_is_said n task text rest same within few = (
  worded (task_words task),
  ap lines_of same ∙ lines_of-task_line n task rest few within,
  sym (task_in-worded n task few within),
)

-- And it stands behind the tasks that were read before.
pub steps_behind_task : (n last : ℕ) (front : List Task) (task : Task) (text rest : List ℕ)
    → text ≡ task_line task ++ rest → IsWithin n task → n ≤ 16 → length front < 65536
    → steps_behind workloads n last (front ++ task ∷ []) (lines_of rest) ≡ steps_behind workloads n last front
    (lines_of text)
steps_behind_task n last front task text rest same within few room =
    let (line, cut, said) = task_is_said n task text rest same within few in
    steps_behind_more workloads n last front line task (lines_of text) (lines_of rest) cut said room

-- ---- the line of a task, from its parts

pub task_line_from : (p : ℕ) (does : Action) (text number said rest : List ℕ) → text ≡ 112 ∷ 32 ∷ number
    → number ≡ decimal p ++ 32 ∷ said → said ≡ line_text (action_words does) ++ rest
    → text ≡ task_line (record { p = p; action = does }) ++ rest
task_line_from p does text number said rest begins numbers says = grind (arith, append_assoc)
