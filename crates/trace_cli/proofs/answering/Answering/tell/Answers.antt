use Rattle.trace_cli.specs.Questions.{answer_text, name_at}
use Rattle.trace_cli.proofs.Telling.{none_written}
use Rattle.trace_cli.proofs.answering.Answering.tell.Goals as goal

pub returns-in_err-text-clause-cut_off : goal.returns-in_err-text-clause-cut_off
returns-in_err-text-clause-cut_off g c =
    none_written c.from_residual.result (g.O.Write.contents c.args.output.now)
    (answer_text c.args.self.now.format (name_at c.args.self.now.questions.now c.args.told.place) c.args.told.answer)
