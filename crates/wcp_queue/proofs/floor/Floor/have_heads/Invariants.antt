use Rattle.wcp_queue.proofs.Words.{◌≡◌, ℕ, ◌<◌, true, has_head}
use Rattle.wcp_queue.proofs.floor.Floor.have_heads.Given as goal

abbrev pub invariant-loop-p : goal.invariant-loop-p
invariant-loop-p l = (k : ℕ) → k < l.p → has_head l.self k ≡ true
