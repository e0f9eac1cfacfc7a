use Rattle.std.proofs.Common.{refl}
use Rattle.toml.proofs.OnLiterals.{toml_on_literals}
use Rattle.trace_condition.specs.Asked.{are_distinct}
use Rattle.trace_questions.specs.Wordings.{questions_in}
use Rattle.test_trace.proofs.tests.question_definitely.no_definite_questions.Goals as goal

pub returns-clause-point : goal.returns-clause-point
unfolding toml_on_literals questions_in are_distinct
returns-clause-point c = refl

pub returns-clause-any_two : goal.returns-clause-any_two
unfolding toml_on_literals questions_in are_distinct
returns-clause-any_two c = refl

pub returns-clause-no_flag : goal.returns-clause-no_flag
unfolding toml_on_literals questions_in are_distinct
returns-clause-no_flag c = refl
