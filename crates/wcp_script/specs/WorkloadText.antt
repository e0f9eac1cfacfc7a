-- The lines of tasks.
use Rattle.std.specs.Prelude.{ℕ, true, false, List, [], ◌∷◌, codes}
use Rattle.std.specs.Fmt.{decimal}
use Rattle.wcp_model.specs.declared.workload.Action.{Action}
use Rattle.wcp_model.specs.declared.workload.Action.TheVariants as action
use Rattle.wcp_model.specs.declared.workload.Task.{Task}
use Rattle.wcp_script.specs.Lines.{Word, line_text}

-- The words for what a process does in a step.
abbrev pub action_words : Action → List Word
action_words (action.Observe true) = codes "true" ∷ []
action_words (action.Observe false) = codes "false" ∷ []
action_words (action.Send to) = codes "send" ∷ decimal to ∷ []
action_words (action.Recv from) = codes "recv" ∷ decimal from ∷ []

-- The words of a task's line.
abbrev pub task_words : Task → List Word
task_words task = codes "p" ∷ decimal task.p ∷ action_words task.action

-- The line of a task, with its LF.
abbrev pub task_line : Task → List ℕ
task_line task = line_text (task_words task)
