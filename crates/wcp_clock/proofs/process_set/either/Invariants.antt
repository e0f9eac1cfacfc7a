use Rattle.std.proofs.Common.{◌≡◌, ℕ, ◌<◌, ◌≤◌, ◌||◌, false, length, get_or}
use Rattle.wcp_clock.proofs.process_set.either.Given as goal

abbrev pub invariant-loop-p : goal.invariant-loop-p
invariant-loop-p l = record {
  long : length l.either' ≡ length l.mine;
  done : (k : ℕ) → k < l.p → get_or l.either' k false ≡ (get_or l.mine k false || get_or l.theirs k false);
  left : (k : ℕ) → l.p ≤ k → get_or l.either' k false ≡ get_or l.mine k false;
}
