use Rattle.wcp_watch.proofs.Words.{◌≡◌, ℕ, ◌<◌, true, ◌||◌, closed_of, lost_of}
use Rattle.wcp_watch.proofs.checking.have_ended.Given as goal

abbrev pub invariant-loop-p : goal.invariant-loop-p
invariant-loop-p l = (q : ℕ) → q < l.p → (closed_of l.checker q || lost_of l.checker q) ≡ true
