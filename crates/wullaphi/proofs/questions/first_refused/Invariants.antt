use Rattle.std.proofs.Common.{◌≡◌, ℕ, ◌<◌, Some, slice_get}
use Rattle.wcp_clock.specs.ProcessNumbers.{NumberSet}
use Rattle.wullaphi.specs.Questions.{CanBeAsked}
use Rattle.wullaphi.proofs.questions.first_refused.Given as goal

abbrev pub invariant-loop-question : goal.invariant-loop-question
invariant-loop-question l = (k : ℕ) (watched : NumberSet) → k < l.question
    → slice_get l.questions k ≡ Some watched → CanBeAsked l.plan watched
