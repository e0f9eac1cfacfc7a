use Rattle.trace_questions.proofs.Words.{refl}
use Rattle.toml.proofs.Views.{table_get}
use Rattle.trace_questions.proofs.keys.flag_at.Goals as goal

pub returns-in_default : goal.returns-in_default
returns-in_default c =
    let found = table_get c.get.result c.args.key.now c.args.table.now.entries c.get.ensures.value in
    rw (← rw c.in_default.is at found) refl

pub returns : goal.returns
returns c =
    let found = table_get c.get.result c.args.key.now c.args.table.now.entries c.get.ensures.value in
    rw (← rw c.in-Some.is at found) c.as_bool.ensures
