use Rattle.wcp_cli.proofs.Imports.{subst, Appends, AppendsPrefix, Prefix, Whole}
use Rattle.wcp_cli.proofs.Requests.{status_after_err}
use Rattle.wcp_cli.proofs.program.fulfil.Goals as goal

pub returns-in_err-write_whole-clause-does : goal.returns-in_err-write_whole-clause-does
returns-in_err-write_whole-clause-does g c =
    let answer = c.in_ok-answer.answer in
    Prefix answer.text.items answer.status c.in_ok-answer.ensures.answer
    (subst (AppendsPrefix (g.O.Write.contents c.args.output.now) (g.O.Write.contents c.write_whole.new.output))
    c.as_slice.ensures.value c.in_err-write_whole.ensures.err)
    (status_after_err _ c.from_residual-in_err-write_whole.ensures.0)

pub returns-clause-does : goal.returns-clause-does
returns-clause-does g c =
    let answer = c.in_ok-answer.answer in
    Whole answer.text.items c.in_ok-answer.ensures.answer
    (subst (Appends (g.O.Write.contents c.args.output.now) (g.O.Write.contents c.write_whole.new.output))
    c.as_slice.ensures.value c.in_ok-write_whole.ensures.ok)
