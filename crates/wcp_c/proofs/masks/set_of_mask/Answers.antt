use Rattle.std.proofs.Common.{◌≡◌, ℕ, ◌+◌, ap, sym, ◌∙◌, arith, refl}
use Rattle.std.proofs.lemmas.Bool.{false≢true}
use Rattle.wcp_c.proofs.MaskBits.{no_bit, none_marked, next_bits, more_marked, same_marked, no_mask, is_mask, is_set}
use Rattle.wcp_c.proofs.MaskBits.{some_of_mask, all_bits, all_marks}
use Rattle.wcp_c.specs.Masks.{has_bit, IsMask}
use Rattle.wcp_c.proofs.masks.set_of_mask.Goals as goal
use Rattle.wcp_c.proofs.masks.set_of_mask.Goals.{then-rest-eq1, else-rest-eq1}

pub returns-then-mask-eq0-clause-is : goal.returns-then-mask-eq0-clause-is
returns-then-mask-eq0-clause-is c = (
  λ no. absurd (false≢true no),
  λ is. absurd (no_mask_of_none c.args.processes c.args.mask c.if-mask-eq0.true is),
)
  where
    no_mask_of_none : (n mask : ℕ) → mask ≡ 0 → IsMask n mask → ⊥
    no_mask_of_none n mask none is =
        false≢true (sym (ap (λ it. has_bit it is.some.0) none ∙ no_bit is.some.0) ∙ is.some.1)

pub loop-p-init : goal.loop-p-init
loop-p-init c = record {
  bits = λ q.
      let here : 0 + q ≡ q = omega arith in
      ap (has_bit c.args.mask) here;
  marked = rw c.none-set.ensures (none_marked c.args.mask);
}

pub loop-p-preserved : goal.loop-p-preserved
loop-p-preserved c =
    let old = c.loop-p.invariant in
    record {
      bits = next_bits c.loop-p.set c.args.mask c.loop-p.p c.loop-p.rest old.bits old.marked;
      marked = elim c.if-rest-eq1.branch [
        | then-rest-eq1 w ↦ rw (w.set-is, w.with-set.ensures.more (omega (arith, c.loop-p-test.true, c.requires)))
            (more_marked c.loop-p.set c.args.mask c.loop-p.p
            c.loop-p.rest old.bits old.marked (grind arith))
        | else-rest-eq1 w ↦ rw w.set-is (same_marked c.loop-p.set c.args.mask c.loop-p.p c.loop-p.rest old.bits
            old.marked (grind arith))
      ];
    }

pub returns-then-rest-ne0-clause-is : goal.returns-then-rest-ne0-clause-is
returns-then-rest-ne0-clause-is c = (
  λ no. absurd (false≢true no),
  λ is. absurd (no_mask c.args.processes c.args.mask c.loop-p.rest (all_bits c.args.processes c.loop-p.p c.args.mask
      c.loop-p.rest
      (omega arith) c.loop-p.invariant.bits) (grind arith) is),
)

pub returns-clause-is : goal.returns-clause-is
returns-clause-is c = (
  λ _. is_mask c.args.processes c.args.mask c.loop-p.rest (all_bits c.args.processes c.loop-p.p c.args.mask
      c.loop-p.rest
      (omega arith) c.loop-p.invariant.bits) (grind arith) (grind arith),
  λ _. refl,
)

pub returns-clause-set : goal.returns-clause-set
returns-clause-set c = is_set c.args.processes c.args.mask c.loop-p.rest (all_bits c.args.processes c.loop-p.p
    c.args.mask
    c.loop-p.rest (omega arith) c.loop-p.invariant.bits) c.loop-p.set (grind arith)
    (all_marks c.args.processes c.loop-p.p c.args.mask c.loop-p.set (omega arith) c.loop-p.invariant.marked)

pub returns-clause-some : goal.returns-clause-some
returns-clause-some c =
    let bits = all_bits c.args.processes c.loop-p.p c.args.mask c.loop-p.rest (omega arith) c.loop-p.invariant.bits in
    some_of_mask c.args.processes c.args.mask c.loop-p.set
    (is_mask c.args.processes c.args.mask c.loop-p.rest bits (grind arith) (grind arith))
    (is_set c.args.processes c.args.mask c.loop-p.rest bits c.loop-p.set (grind arith)
    (all_marks c.args.processes c.loop-p.p c.args.mask c.loop-p.set (omega arith) c.loop-p.invariant.marked))
