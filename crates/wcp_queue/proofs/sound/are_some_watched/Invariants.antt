use Rattle.wcp_queue.proofs.Words.{◌≡◌, ℕ, ◌<◌, true, false}
use Rattle.std.specs.FinSet as set
use Rattle.wcp_clock.specs.ProcessNumbers.{AreProcessNumbers}
use Rattle.wcp_queue.proofs.sound.are_some_watched.Given as goal

abbrev pub invariant-loop-p : goal.invariant-loop-p
invariant-loop-p l = record {
  within : (q : ℕ) → q < l.p → set.contains l.watched q ≡ true → q < l.n;
  some : l.some ≡ true → (q : ℕ) × (set.contains l.watched q ≡ true);
  numbers : 0 < l.p → AreProcessNumbers l.watched;
  none : l.some ≡ false → (q : ℕ) → q < l.p → set.contains l.watched q ≡ false;
}
