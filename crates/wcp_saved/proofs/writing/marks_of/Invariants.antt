use Rattle.std.proofs.Common.{◌≡◌, ℕ, ◌<◌, false, length, get_or}
use Rattle.std.specs.FinSet as set
use Rattle.wcp_saved.proofs.writing.marks_of.Given as goal

abbrev pub invariant-loop-p : goal.invariant-loop-p
invariant-loop-p l = record {
  long : length l.marks ≡ 16;
  done : (k : ℕ) → k < l.p → get_or l.marks k false ≡ set.contains l.watched k;
}
