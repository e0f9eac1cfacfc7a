use Rattle.wcp_queue.proofs.Words.{◌≡◌, ℕ, ◌<◌, ◌≤◌, slice_index, component, has_head, RisesTo}
use Rattle.wcp_queue.proofs.floor.Floor.raise.Given as goal

abbrev pub invariant-loop-q : goal.invariant-loop-q
invariant-loop-q l = record {
  done : (k : ℕ) → k < l.q → RisesTo k (slice_index l.clock k) l.initial.self l.risen;
  left : (k : ℕ) → l.q ≤ k
      → (component l.risen k ≡ component l.initial.self k) × (has_head l.risen k ≡ has_head l.initial.self k);
  tests : l.risen.tests ≡ l.initial.self.tests;
}
