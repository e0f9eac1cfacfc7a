use Rattle.wcp_watch.proofs.Words.{◌≡◌, ◌<◌, ℕ, None, get_or}
use Rattle.wcp_watch.proofs.shares.are_same.Given as goal

abbrev pub invariant-loop-p : goal.invariant-loop-p
invariant-loop-p l = (k : ℕ) → k < l.p → get_or l.one k None ≡ get_or l.other k None
