use Rattle.std.proofs.Common.{◌≡◌, ℕ, ◌<◌, ◌≤◌, length, max, get_or}
use Rattle.wcp_clock.proofs.per_process.greater.Given as goal

abbrev pub invariant-loop-place : goal.invariant-loop-place
invariant-loop-place l = record {
  long : length l.greater ≡ length l.mine;
  done : (k : ℕ) → k < l.place → get_or l.greater k 0 ≡ max (get_or l.mine k 0) (get_or l.theirs k 0);
  left : (k : ℕ) → l.place ≤ k → get_or l.greater k 0 ≡ get_or l.mine k 0;
}
