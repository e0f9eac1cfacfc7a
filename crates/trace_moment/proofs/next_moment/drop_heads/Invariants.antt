use Rattle.std.proofs.Common.{◌≡◌, ◌<◌, ◌≤◌, ℕ, length}
use Rattle.trace_moment.specs.Kept.{kept_at, without_kept}
use Rattle.trace_moment.proofs.next_moment.drop_heads.Given as goal

abbrev pub invariant-loop-q : goal.invariant-loop-q
invariant-loop-q l = record {
  many : length l.queues ≡ length l.fn.queues;
  dropped : (p : ℕ) → p < l.q → kept_at l.queues p ≡ without_kept (kept_at l.fn.queues p);
  others : (p : ℕ) → l.q ≤ p → kept_at l.queues p ≡ kept_at l.fn.queues p;
}
