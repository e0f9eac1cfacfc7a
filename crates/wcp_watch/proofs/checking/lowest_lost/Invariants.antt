use Rattle.wcp_watch.proofs.Words.{◌≡◌, ℕ, ◌<◌, false, lost_of}
use Rattle.wcp_watch.proofs.checking.lowest_lost.Given as goal

abbrev pub invariant-loop-p : goal.invariant-loop-p
invariant-loop-p l = (q : ℕ) → q < l.p → lost_of l.checker q ≡ false
