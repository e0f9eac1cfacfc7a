use Rattle.trace_asking.specs.Asking.{HaveAll}
use Rattle.trace_questions.specs.Questions.{AskWhy}
use Rattle.trace_questions.proofs.Asking.{HaveRead}
use Rattle.trace_questions.proofs.questions.read_each.Given as goal

abbrev pub invariant-loop-place : goal.invariant-loop-place
invariant-loop-place l = record {
  read : HaveRead l.wordings l.place l.questions.items;
  have : HaveAll l.questions.items;
  whys : AskWhy l.why l.questions.items;
}
