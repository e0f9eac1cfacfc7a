use Rattle.trace_asking.proofs.Words.{◌≡◌, [], false, take}
use Rattle.std.specs.Prelude.{All}
use Rattle.trace_asking.specs.Asking.{AreAsked, IsWaiting, answered_in}
use Rattle.trace_asking.proofs.asked.asked_of.Given as goal

abbrev pub invariant-loop-question : goal.invariant-loop-question
invariant-loop-question l = record {
  waiting : AreAsked (IsWaiting []) (take l.question-index l.questions) l.asked.items;
  unanswered : All (λ answered. answered ≡ false) (answered_in l.asked.items);
}
