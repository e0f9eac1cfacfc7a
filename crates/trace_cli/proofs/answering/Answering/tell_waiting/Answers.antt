use Rattle.trace_asking.specs.Asking.{answered_by}
use Rattle.trace_text.specs.Waiting.{seen_waiting}
use Rattle.trace_cli.specs.Questions.{unknown_at}
use Rattle.trace_cli.proofs.Telling.{none_written}
use Rattle.trace_cli.proofs.answering.Answering.tell_waiting.Goals as goal

pub returns-in_err-text-clause-cut_off : goal.returns-in_err-text-clause-cut_off
returns-in_err-text-clause-cut_off g c =
    none_written c.from_residual.result (g.O.Write.contents c.args.output.now)
    (unknown_at c.args.self.now.format c.args.self.now.questions.now (answered_by c.args.self.now.asking)
    (seen_waiting c.args.waiting.now) c.args.place)
