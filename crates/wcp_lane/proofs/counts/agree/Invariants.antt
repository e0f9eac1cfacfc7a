use Rattle.std.proofs.Common.{◌≡◌, ℕ, ◌<◌, true, slice_index}
use Rattle.std.specs.FinSet as set
use Rattle.wcp_lane.proofs.counts.agree.Given as goal

abbrev pub invariant-loop-p : goal.invariant-loop-p
invariant-loop-p l = (p : ℕ) → p < l.p → set.contains l.members p ≡ true → slice_index l.put p ≡ slice_index l.taken p
