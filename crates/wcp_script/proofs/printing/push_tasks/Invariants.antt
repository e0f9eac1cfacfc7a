use Rattle.wcp_script.proofs.Words.{◌≡◌, ◌++◌, string_bytes, take, flat_map, task_line}
use Rattle.wcp_script.proofs.printing.push_tasks.Given as goal

abbrev pub invariant-loop-task : goal.invariant-loop-task
invariant-loop-task l = string_bytes l.text ≡ string_bytes l.fn.text ++ flat_map task_line (take l.task-index l.tasks)
