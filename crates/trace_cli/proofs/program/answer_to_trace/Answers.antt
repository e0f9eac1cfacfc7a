use Rattle.trace_cli.proofs.program.answer_to_trace.Goals as goal

pub returns-clause-answer : goal.returns-clause-answer
returns-clause-answer g c =
    record {
      together = c.requires.together;
      one = c.requires.one;
      question = c.in_ok-question.question;
      asks = c.in_ok-question.ensures.asks;
      detected = c.in_ok-detected.detected;
      detects = c.in_ok-detected.ensures.detects;
      tells = c.in_ok-answer.ensures.told;
    }
