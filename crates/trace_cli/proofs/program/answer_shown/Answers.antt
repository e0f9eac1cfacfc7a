use Rattle.trace_cli.proofs.program.answer_shown.Goals as goal

pub returns-clause-answer : goal.returns-clause-answer
returns-clause-answer g c = record {
  together = c.requires;
  question = c.in_ok-question.question;
  asks = c.in_ok-question.ensures.asks;
  shown = c.in_ok-answer.ensures.answer;
}
