use Rattle.std.proofs.Common.{◌≡◌}
use Rattle.std.proofs.KnownBytes.{Keeps-refl}
use Rattle.wcp_io.specs.Edge.{edge_of}
use Rattle.trace_source.specs.Clocked.{log_of, log_story}
use Rattle.trace_cli.specs.Questions.{form_for}
use Rattle.trace_cli.proofs.Telling.{file_answered, nothing_told, status_handed}
use Rattle.trace_cli.proofs.answering.answer_file.Goals as goal

pub tell_all-requires-clause-can : goal.tell_all-requires-clause-can
tell_all-requires-clause-can g c =
    let whole = log_of c.form_for-form.result (g.I.Read.remaining c.args.input.now) c.in_ok-source.source in
    c.in_ok-answering.ensures.can whole c.in_ok-source.ensures.gave

pub returns-in_err-tell_all-clause-answers : goal.returns-in_err-tell_all-clause-answers
returns-in_err-tell_all-clause-answers g c =
    let options = c.args.options.now in
    let output = g.O.Write.contents c.args.output.now in
    let whole = log_of c.form_for-form.result (g.I.Read.remaining c.args.input.now) c.in_ok-source.source in
    let read_so : c.form_for-form.result ≡ form_for options.form c.deref-2.result.now =
    rw (c.deref-2.ensures.value) (rw c.deref.ensures.value at c.form_for-form.ensures) in
    let begun = nothing_told (log_story g.I.Read.remaining whole) whole.form options.format c.deref-2.result.now
    whole.bytes output output c.in_ok-answering.answering
    (c.in_ok-answering.ensures.telling whole whole.form whole.bytes output output c.in_ok-source.ensures.gave
    (Keeps-refl output)) in
    let same = status_handed c.from_residual-in_err-tell_all.result c.in_err-tell_all.field-0.0
    c.from_residual-in_err-tell_all.ensures in
    rw same (file_answered options (g.Q.Read.remaining c.args.file.now)
    (edge_of whole.bytes _ output (g.O.Write.contents c.tell_all.new.output)) whole.form c.deref-2.result.now
    c.in_ok-questions.questions.items _ read_so c.deref-2.ensures.value c.requires.together c.requires.alone
    c.in_ok-questions.ensures.asked
    c.in_ok-questions.ensures.why (c.in_err-tell_all.ensures.tells whole options.format c.deref-2.result.now output begun))

pub returns-clause-answers : goal.returns-clause-answers
returns-clause-answers g c =
    let options = c.args.options.now in
    let output = g.O.Write.contents c.args.output.now in
    let whole = log_of c.form_for-form.result (g.I.Read.remaining c.args.input.now) c.in_ok-source.source in
    let read_so : c.form_for-form.result ≡ form_for options.form c.deref-2.result.now =
    rw (c.deref-2.ensures.value) (rw c.deref.ensures.value at c.form_for-form.ensures) in
    let begun = nothing_told (log_story g.I.Read.remaining whole) whole.form options.format c.deref-2.result.now
    whole.bytes output output c.in_ok-answering.answering
    (c.in_ok-answering.ensures.telling whole whole.form whole.bytes output output c.in_ok-source.ensures.gave
    (Keeps-refl output)) in
    rw c.finish.ensures.status (file_answered options (g.Q.Read.remaining c.args.file.now)
    (edge_of whole.bytes _ output (g.O.Write.contents c.tell_all.new.output)) whole.form c.deref-2.result.now
    c.in_ok-questions.questions.items _ read_so c.deref-2.ensures.value c.requires.together c.requires.alone
    c.in_ok-questions.ensures.asked
    c.in_ok-questions.ensures.why (c.in_ok-tell_all.ensures.tells whole options.format c.deref-2.result.now output begun))
