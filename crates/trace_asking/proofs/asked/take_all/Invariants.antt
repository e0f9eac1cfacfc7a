use Rattle.trace_asking.proofs.Words.{◌≡◌, ◌<◌, ◌≤◌, ℕ, List, length, slice_index_or, Logged, FollowsIn}
use Rattle.trace_log.specs.Turns.{seen_logged}
use Rattle.trace_asking.specs.declared.asked.Asked.{Asked}
use Rattle.trace_asking.specs.declared.question.Question.{Question}
use Rattle.trace_asking.specs.Asking.{AreAsked, HasTakenOne, IsWaiting, answered_in, question_at}
use Rattle.trace_asking.proofs.asked.take_all.Given as goal

abbrev pub invariant-loop-place : goal.invariant-loop-place
invariant-loop-place l = record {
  as_many : length l.asked.items ≡ length l.initial.asked.items;
  answered : answered_in l.asked.items ≡ answered_in l.initial.asked.items;
  below : (questions : List Question) (before : List Logged)
      → AreAsked (IsWaiting before) questions l.initial.asked.items → FollowsIn before (seen_logged l.logged).event
      → (k : ℕ) (one : Asked) → k < l.place
      → (question : Question) → HasTakenOne before (seen_logged l.logged)
      (question_at questions k question) (slice_index_or l.asked.items k one);
  above : (k : ℕ) (one : Asked) → l.place ≤ k
      → slice_index_or l.asked.items k one ≡ slice_index_or l.initial.asked.items k one;
}
