use Rattle.trace_questions.proofs.Words.{refl, codes}
use Rattle.toml.proofs.Views.{table_get}
use Rattle.trace_questions.specs.Wordings.{questions_in}
use Rattle.trace_questions.proofs.wording.wordings_in.Goals as goal

pub returns-then-not-has_only : goal.returns-then-not-has_only
unfolding questions_in
returns-then-not-has_only c = rw (← c.has_only.ensures, c.if-not-has_only.true) refl

pub returns-in_default : goal.returns-in_default
unfolding questions_in
returns-in_default c =
    let found = table_get c.get.result (codes "question") c.args.document.now.entries c.get.ensures.value in
    rw (← c.has_only.ensures, c.if-not-has_only.false) (rw (← rw c.in_default.is at found) refl)

pub returns-in_default-as_array : goal.returns-in_default-as_array
unfolding questions_in
returns-in_default-as_array c =
    let found = table_get c.get.result (codes "question") c.args.document.now.entries c.get.ensures.value in
    rw (← c.has_only.ensures, c.if-not-has_only.false)
    (rw (← rw c.in-Some.is at found) (rw (← rw c.in_default-as_array.is at c.as_array.ensures) refl))

pub returns : goal.returns
unfolding questions_in
returns c =
    let found = table_get c.get.result (codes "question") c.args.document.now.entries c.get.ensures.value in
    rw (← c.has_only.ensures, c.if-not-has_only.false)
    (rw (← rw c.in-Some.is at found) (rw (← rw c.in-Some-as_array.is at c.as_array.ensures) c.wordings_of.ensures))
