use Rattle.wcp_watch.proofs.Words.{◌≡◌, ℕ, ◌<◌, false, question_at}
use Rattle.wcp_watch.proofs.checking.is_one_starved.Given as goal

abbrev pub invariant-loop-question : goal.invariant-loop-question
invariant-loop-question l = (k : ℕ) → k < l.question → (question_at l.panel k).starved ≡ false
