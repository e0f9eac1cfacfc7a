use Rattle.std.proofs.Common.{◌≡◌, ℕ, ◌<◌, ◌≤◌, ◌^◌, length, get_or}
use Rattle.wcp_saved.proofs.reading.numbers_of.Given as goal

abbrev pub invariant-loop-p : goal.invariant-loop-p
invariant-loop-p l = record {
  long : length l.numbers ≡ 16;
  done : (k : ℕ) → k < l.p → get_or l.words k 0 < 2 ^ 32 → get_or l.numbers k 0 ≡ get_or l.words k 0;
  left : (k : ℕ) → l.p ≤ k → get_or l.numbers k 0 ≡ 0;
}
