use Rattle.std.proofs.Common.{subst}
use Rattle.std.proofs.lemmas.Result.{err_from_is_err_and}
use Rattle.std.specs.Io.KnownBytes.{Appends}
use Rattle.wcp_io.specs.Prefixes.{AppendsPrefix}
use Rattle.std.proofs.KnownBytes.{Keeps-refl}
use Rattle.draw_cli.specs.Edge.{Prefix, Quiet, Whole}
use Rattle.draw_cli.proofs.Refusals.{no_answer_refused, status_after_err, why_refused}
use Rattle.draw_cli.proofs.program.obey.Goals as goal

pub returns-in_err-answer-clause-fault : goal.returns-in_err-answer-clause-fault
returns-in_err-answer-clause-fault g c =
    let handed = err_from_is_err_and c.from_residual.result c.from_residual.ensures.1 in
    rw (handed.1, handed.2)
    (why_refused c.args.request _ _ c.in_err-answer.field-0.0 c.in_err-answer.ensures.fault)

pub returns-in_err-write_whole-clause-does : goal.returns-in_err-write_whole-clause-does
returns-in_err-write_whole-clause-does g c =
    let answer = c.in_ok-answer.answer in
    Prefix _ answer.status c.in_ok-answer.ensures.answer
    (subst (AppendsPrefix (g.O.Write.contents c.args.output.now) (g.O.Write.contents c.write_whole.new.output))
    c.as_slice.ensures.value c.in_err-write_whole.ensures.err)
    (status_after_err _ c.from_residual-in_err-write_whole.ensures.0)

pub returns-clause-does : goal.returns-clause-does
returns-clause-does g c =
    Whole _ c.in_ok-answer.ensures.answer
    (subst (Appends (g.O.Write.contents c.args.output.now) (g.O.Write.contents c.write_whole.new.output))
    c.as_slice.ensures.value c.in_ok-write_whole.ensures.ok)

pub returns-in_err-answer-clause-does : goal.returns-in_err-answer-clause-does
returns-in_err-answer-clause-does g c =
    let handed = err_from_is_err_and c.from_residual.result c.from_residual.ensures.1 in
    rw (handed.1, handed.2)
    (Quiet (Keeps-refl _) (no_answer_refused c.args.request _ _ c.in_err-answer.field-0.0 c.in_err-answer.ensures.fault))
