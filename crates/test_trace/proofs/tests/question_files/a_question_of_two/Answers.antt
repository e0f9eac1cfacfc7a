use Rattle.std.proofs.Common.{refl}
use Rattle.toml.proofs.OnLiterals.{toml_on_literals}
use Rattle.trace_condition.specs.Asked.{are_distinct}
use Rattle.trace_questions.specs.Wordings.{questions_in}
use Rattle.test_trace.proofs.tests.question_files.a_question_of_two.Goals as goal

pub returns : goal.returns
unfolding toml_on_literals questions_in are_distinct
returns c = refl
