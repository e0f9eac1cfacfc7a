use Rattle.trace_questions.proofs.Words.{refl, codes}
use Rattle.toml.proofs.Views.{table_get}
use Rattle.trace_questions.proofs.wording.name_in.Goals as goal

pub returns-in_default : goal.returns-in_default
returns-in_default c =
    let found = table_get c.get.result (codes "name") c.args.table.now.entries c.get.ensures.value in
    rw (← rw c.in_default.is at found)

pub returns-in_default-as_str : goal.returns-in_default-as_str
returns-in_default-as_str c =
    let found = table_get c.get.result (codes "name") c.args.table.now.entries c.get.ensures.value in
    rw (← rw c.in-Some.is at found) (rw (← rw c.in_default-as_str.is at c.as_str.ensures) refl)

pub returns-then-is_name : goal.returns-then-is_name
returns-then-is_name c =
    let found = table_get c.get.result (codes "name") c.args.table.now.entries c.get.ensures.value in
    rw (← rw c.in-Some.is at found) (rw (← rw c.in-Some-as_str.is at c.as_str.ensures)
    (rw (← c.is_name.ensures, c.if-is_name.true) refl))

pub returns-else-is_name : goal.returns-else-is_name
returns-else-is_name c =
    let found = table_get c.get.result (codes "name") c.args.table.now.entries c.get.ensures.value in
    rw (← rw c.in-Some.is at found) (rw (← rw c.in-Some-as_str.is at c.as_str.ensures)
    (rw (← c.is_name.ensures, c.if-is_name.false) refl))
