use Rattle.std.proofs.Common.{◌≡◌, ℕ, ◌+◌, ◌&&◌, ltb}
use Rattle.std.specs.FinSet as set
use Rattle.wcp_c.specs.Masks.{has_bit}
use Rattle.wcp_c.proofs.masks.set_of_mask.Given as goal

abbrev pub invariant-loop-p : goal.invariant-loop-p
invariant-loop-p l = record {
  bits : (q : ℕ) → has_bit l.mask (l.p + q) ≡ has_bit l.rest q;
  marked : (q : ℕ) → set.contains l.set q ≡ (ltb q l.p && has_bit l.mask q);
}
