use Rattle.wcp_queue.proofs.Words.{◌≡◌, ℕ, ◌<◌, ◌≤◌, length}
use Rattle.wcp_queue.specs.Panel.{question_at, TakesOrIsStarved}
use Rattle.wcp_queue.proofs.question.take_each.Given as goal

abbrev pub invariant-loop-question : goal.invariant-loop-question
invariant-loop-question l = record {
  as_many : length l.questions ≡ length l.initial.questions;
  below : (k : ℕ) → k < l.question
      → TakesOrIsStarved (question_at l.initial.questions k) (question_at l.questions k) l.item;
  above : (k : ℕ) → l.question ≤ k → question_at l.questions k ≡ question_at l.initial.questions k;
}
