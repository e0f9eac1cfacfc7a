use Rattle.std.proofs.Common.{refl, subst, arith}
use Rattle.std.specs.Prelude.{All}
use Rattle.std.proofs.lemmas.Bool.{false≢true}
use Rattle.std.proofs.lemmas.List.{take_all}
use Rattle.std.proofs.lemmas.List.Elements.{All-more}
use Rattle.wcp_c.specs.Masks.{IsMask}
use Rattle.wcp_c.proofs.masks.are_masks.Goals as goal

pub returns-then-is_none : goal.returns-then-is_none
returns-then-is_none c = (
  λ no. absurd (false≢true no),
  λ all. let some = c.set_of_mask.ensures.is.1 (all c.loop-mask.mask-index 0 c.loop-mask-test.true) in grind arith,
)

pub loop-mask-preserved : goal.loop-mask-preserved
loop-mask-preserved c = All-more (IsMask c.args.processes) c.args.masks.now c.loop-mask.mask-index 0
    c.loop-mask-test.true c.loop-mask.invariant (c.set_of_mask.ensures.is.0 (grind arith))

pub returns : goal.returns
returns c =
    let all = subst (All (IsMask c.args.processes))
    (take_all c.loop-mask.mask-index c.args.masks.now c.loop-mask-test.false) c.loop-mask.invariant in
    (λ _. all, λ _. refl)
