use Rattle.std.proofs.Common.{map, subst}
use Rattle.std.specs.Io.KnownBytes.{Appends}
use Rattle.wcp_io.specs.Prefixes.{AppendsPrefix}
use Rattle.trace_cli.specs.Edge.{ByFile, EachMoment, Prefix, Whole}
use Rattle.trace_words.specs.Requests.{IsRequestOf, spelled}
use Rattle.trace_cli.proofs.Statuses.{status_after_err}
use Rattle.trace_cli.proofs.program.obey.Goals as goal

pub returns-in_err-write_whole-clause-does : goal.returns-in_err-write_whole-clause-does
returns-in_err-write_whole-clause-does g c =
    let answer = c.in_ok-answer.answer in
    Prefix c.in_ok-request.request answer.text.items answer.status c.in_ok-request.ensures c.in_ok-answer.ensures.answer
    (subst (AppendsPrefix (g.O.Write.contents c.args.output.now) (g.O.Write.contents c.write_whole.new.output))
    c.as_slice.ensures.value c.in_err-write_whole.ensures.err)
    (status_after_err _ c.from_residual-in_err-write_whole.ensures.0)

pub returns-clause-does : goal.returns-clause-does
returns-clause-does g c =
    let answer = c.in_ok-answer.answer in
    Whole c.in_ok-request.request answer.text.items c.in_ok-request.ensures c.in_ok-answer.ensures.answer
    (subst (Appends (g.O.Write.contents c.args.output.now) (g.O.Write.contents c.write_whole.new.output))
    c.as_slice.ensures.value c.in_ok-write_whole.ensures.ok)

pub returns-in-Some-clause-does : goal.returns-in-Some-clause-does
returns-in-Some-clause-does g c =
    ByFile c.in-Some.options.now
    (subst (IsRequestOf (spelled (map g.S.AsStr.text c.args.words.now))) c.in-Some.ensures.0 c.in_ok-request.ensures)
    c.in-Some.ensures.1 c.answer_questions.ensures.answers

pub returns-in-Some-asked_for_all-clause-does : goal.returns-in-Some-asked_for_all-clause-does
returns-in-Some-asked_for_all-clause-does g c =
    EachMoment c.in-Some-asked_for_all.options.now
    (subst (IsRequestOf (spelled (map g.S.AsStr.text c.args.words.now))) c.in-Some-asked_for_all.ensures.some.0
    c.in_ok-request.ensures) c.in-Some-asked_for_all.ensures.some.1 c.answer_moments.ensures.answers
