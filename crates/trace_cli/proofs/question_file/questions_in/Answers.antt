use Rattle.trace_cli.proofs.Picked.{picked_of}
use Rattle.trace_cli.proofs.question_file.questions_in.Goals as goal

pub returns-clause-asked : goal.returns-clause-asked
returns-clause-asked g c = picked_of c.args.options.now (g.Q.Read.remaining c.args.file.now) c.in_ok-questions.questions.items
    c.picked.result c.in_ok-questions.ensures.asked c.picked.ensures.picks
