use Rattle.toml.specs.View.{table_view}
use Rattle.trace_questions.proofs.Words.{map, seen_wording, sym}
use Rattle.trace_questions.proofs.Asking.{refuses_text, says_no_questions}
use Rattle.trace_questions.proofs.questions.read_questions.Goals as goal

pub returns-in_default-clause-refused : goal.returns-in_default-clause-refused
returns-in_default-clause-refused c =
    let none = says_no_questions (table_view c.in_ok-document.document)
    (sym (rw c.in_default.is at c.in_ok-wordings.ensures)) in
    c.no_questions.ensures c.args.text.now (rw c.in_ok-text.ensures at c.in_ok-document.ensures) none

pub returns-clause-refused : goal.returns-clause-refused
returns-clause-refused c =
    refuses_text c.args.text.now (table_view c.in_ok-document.document) (map seen_wording c.in-Some.wordings.items)
    (rw c.in_ok-text.ensures at c.in_ok-document.ensures) (sym (rw c.in-Some.is at c.in_ok-wordings.ensures))
    c.read_each.result (rw c.deref.ensures.value at c.read_each.ensures.read)
