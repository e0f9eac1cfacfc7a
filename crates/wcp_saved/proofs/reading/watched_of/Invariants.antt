use Rattle.std.proofs.Common.{◌≡◌, ℕ, ◌&&◌, false, get_or, ltb}
use Rattle.std.specs.FinSet as set
use Rattle.wcp_saved.proofs.reading.watched_of.Given as goal

abbrev pub invariant-loop-p : goal.invariant-loop-p
invariant-loop-p l = (q : ℕ) → set.contains l.watched q ≡ (ltb q l.p && get_or l.marks q false)
