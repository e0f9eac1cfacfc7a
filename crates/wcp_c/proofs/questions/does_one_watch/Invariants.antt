use Rattle.std.proofs.Common.{◌≡◌, ℕ, ◌<◌, false}
use Rattle.std.specs.FinSet as set
use Rattle.wcp_queue.specs.Panel.{question_at}
use Rattle.wcp_c.proofs.questions.does_one_watch.Given as goal

abbrev pub invariant-loop-question : goal.invariant-loop-question
invariant-loop-question l = (k : ℕ) → k < l.question → set.contains (question_at l.panel k).watched l.p ≡ false
