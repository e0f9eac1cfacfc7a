use Rattle.trace_asking.proofs.Words.{◌≡◌, List}
use Rattle.trace_asking.specs.declared.question.Question.{Question}
use Rattle.trace_asking.specs.Asking.{CanGoOn, IsAsking, answered_by}
use Rattle.trace_asking.proofs.asking.Asking.next_answer.Given as goal

abbrev pub invariant-loop : goal.invariant-loop
invariant-loop g l =
    record {
      can : CanGoOn g.S.Source.story l.self;
      asking : (whole : g.S.Source.Whole) (questions : List Question)
          → IsAsking (g.S.Source.story whole) questions l.initial.self
          → IsAsking (g.S.Source.story whole) questions l.self;
      answered : answered_by l.self ≡ answered_by l.initial.self;
    }
