use Rattle.trace_cli.proofs.Picked.{kept}
use Rattle.trace_cli.proofs.program.answer_questions.Goals as goal

pub returns-then-not-are_answers_alone-clause-silent : goal.returns-then-not-are_answers_alone-clause-silent
returns-then-not-are_answers_alone-clause-silent g c =
    kept c.show_file.result (g.E.Write.contents c.args.errors.now)
