use Rattle.std.proofs.Common.{refl}
use Rattle.toml.proofs.OnLiterals.{toml_on_literals}
use Rattle.trace_condition.specs.Asked.{are_distinct}
use Rattle.trace_questions.specs.Wordings.{questions_in}
use Rattle.test_trace.proofs.tests.question_definitely.a_definite_question.Goals as goal

pub returns-clause-asks : goal.returns-clause-asks
unfolding toml_on_literals questions_in are_distinct
returns-clause-asks c = refl

pub returns-clause-asks_not : goal.returns-clause-asks_not
unfolding toml_on_literals questions_in are_distinct
returns-clause-asks_not c = refl
