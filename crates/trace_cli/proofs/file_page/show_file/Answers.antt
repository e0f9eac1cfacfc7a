use Rattle.std.proofs.Common.{◌≡◌, ◌∙◌, ◌∷◌, [], IfSome, List, ap, subst}
use Rattle.std.specs.Io.KnownBytes.{Appends}
use Rattle.wcp_io.specs.Prefixes.{AppendsPrefix}
use Rattle.trace_log.specs.declared.turn.Form.{Form}
use Rattle.trace_asking.specs.declared.question.Question.{Question}
use Rattle.trace_asking.specs.Seeking.{IsAskable}
use Rattle.trace_pages.specs.Pages.{IsLogShown}
use Rattle.trace_questions.specs.Questions.{AskWhy}
use Rattle.trace_cli.specs.Questions.{ArePicked, Shown, ShownCut, form_for}
use Rattle.trace_cli.proofs.Picked.{of_alone}
use Rattle.trace_cli.proofs.Statuses.{status_after_err}
use Rattle.trace_cli.proofs.file_page.show_file.Goals as goal

pub shown-requires : goal.shown-requires
shown-requires g c = of_alone (λ (question : Question). IsAskable question.subject) c.in-Some.question
    c.in_ok-questions.questions.items c.in-Some.ensures c.in_ok-questions.ensures.have

pub returns-in_err-write_whole-clause-answers : goal.returns-in_err-write_whole-clause-answers
returns-in_err-write_whole-clause-answers g c =
    let answer = c.in_ok-answer.answer in
    let options = c.args.options.now in
    let input = g.I.Read.remaining c.args.input.now in
    let rest = g.I.Read.remaining c.shown.new.input in
    let question = c.in-Some.question in
    let alone : c.in_ok-questions.questions.items ≡ question ∷ [] = c.in-Some.ensures in
    let read_so : c.form_for-form.result ≡ form_for options.form (question ∷ []) =
    c.form_for-form.ensures ∙ ap (form_for options.form) (c.deref.ensures.value ∙ alone) in
    ShownCut answer.text.items answer.status (record {
      together = c.requires.together;
      as_view = c.requires.shown;
      question = question;
      asked = subst (λ (those : List Question). IfSome (g.Q.Read.remaining c.args.file.now)
          (λ text. ArePicked options text those)) alone c.in_ok-questions.ensures.asked;
      why = subst (AskWhy options.explain) alone c.in_ok-questions.ensures.why;
      shown = subst (λ (form : Form). IsLogShown options.svg form question input rest answer.text.items answer.status)
          read_so c.in_ok-answer.ensures.answer;
    })
    (subst (AppendsPrefix (g.O.Write.contents c.args.output.now) (g.O.Write.contents c.write_whole.new.output))
    c.as_slice.ensures.value c.in_err-write_whole.ensures.err)
    (status_after_err _ c.from_residual-in_err-write_whole.ensures.0)

pub returns-clause-answers : goal.returns-clause-answers
returns-clause-answers g c =
    let answer = c.in_ok-answer.answer in
    let options = c.args.options.now in
    let input = g.I.Read.remaining c.args.input.now in
    let rest = g.I.Read.remaining c.shown.new.input in
    let question = c.in-Some.question in
    let alone : c.in_ok-questions.questions.items ≡ question ∷ [] = c.in-Some.ensures in
    let read_so : c.form_for-form.result ≡ form_for options.form (question ∷ []) =
    c.form_for-form.ensures ∙ ap (form_for options.form) (c.deref.ensures.value ∙ alone) in
    Shown answer.text.items (record {
      together = c.requires.together;
      as_view = c.requires.shown;
      question = question;
      asked = subst (λ (those : List Question). IfSome (g.Q.Read.remaining c.args.file.now)
          (λ text. ArePicked options text those)) alone c.in_ok-questions.ensures.asked;
      why = subst (AskWhy options.explain) alone c.in_ok-questions.ensures.why;
      shown = subst (λ (form : Form). IsLogShown options.svg form question input rest answer.text.items answer.status)
          read_so c.in_ok-answer.ensures.answer;
    })
    (subst (Appends (g.O.Write.contents c.args.output.now) (g.O.Write.contents c.write_whole.new.output))
    c.as_slice.ensures.value c.in_ok-write_whole.ensures.ok)
