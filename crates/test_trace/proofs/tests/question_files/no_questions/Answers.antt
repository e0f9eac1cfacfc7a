use Rattle.std.proofs.Common.{refl}
use Rattle.toml.proofs.OnLiterals.{toml_on_literals}
use Rattle.trace_condition.specs.Asked.{are_distinct}
use Rattle.trace_questions.specs.Wordings.{questions_in}
use Rattle.test_trace.proofs.tests.question_files.no_questions.Goals as goal

pub returns-clause-twice : goal.returns-clause-twice
unfolding toml_on_literals questions_in are_distinct
returns-clause-twice c = refl

pub returns-clause-other_key : goal.returns-clause-other_key
unfolding toml_on_literals questions_in are_distinct
returns-clause-other_key c = refl

pub returns-clause-two_and_one : goal.returns-clause-two_and_one
unfolding toml_on_literals questions_in are_distinct
returns-clause-two_and_one c = refl
