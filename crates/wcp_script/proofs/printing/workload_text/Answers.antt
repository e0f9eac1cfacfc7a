use Rattle.wcp_script.proofs.Words.{◌≡◌, ◌++◌, rules, subst, sym, ◌∙◌, append_assoc, flat_map, text_of, head_lines}
use Rattle.wcp_script.proofs.Words.{workloads, Spells, task_line}
use Rattle.wcp_script.proofs.Printed.{text_of-head_and_tasks, text_spells}
use Rattle.wcp_script.proofs.printing.workload_text.Goals as goal

pub returns-clause-text : goal.returns-clause-text
returns-clause-text c =
    let plan = c.args.workload.now.plan in
    let tasks = c.args.workload.now.tasks.items in
    let is : c.into_bytes.result.items ≡ text_of (head_lines plan) ++ flat_map task_line tasks =
    search (rules, append_assoc) in
    is ∙ sym (text_of-head_and_tasks plan tasks)

pub returns-clause-spells : goal.returns-clause-spells
returns-clause-spells c checked could =
    let plan = c.args.workload.now.plan in
    let tasks = c.args.workload.now.tasks.items in
    subst (λ text. Spells workloads text plan tasks) (sym (returns-clause-text c))
    (text_spells plan tasks checked could)
