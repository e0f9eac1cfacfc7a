use Rattle.std.proofs.Common.{ℕ, ◌<◌}
use Rattle.wcp_queue.specs.Panel.{question_at}
use Rattle.wcp_c.specs.Tags.{IsSpent}
use Rattle.wcp_c.proofs.spent.is_spent_in.Given as goal

abbrev pub invariant-loop-question : goal.invariant-loop-question
invariant-loop-question l = (k : ℕ) → k < l.question → IsSpent (question_at l.panel k) l.tagged
