use Rattle.std.proofs.Common.{arith}
use Rattle.std.proofs.lemmas.Grind.{common_steps}
use Rattle.wcp_c.proofs.asked.wcp_checker_new_sets.Goals as goal

pub boxed_sets-requires-clause-masks : goal.boxed_sets-requires-clause-masks
boxed_sets-requires-clause-masks c = c.are_masks.ensures.0 (grind arith)

pub returns-in-Ok-clause-range : goal.returns-in-Ok-clause-range
returns-in-Ok-clause-range c = λ _. (
  λ is. absurd (omega (arith, is)),
  λ no. absurd (no (grind arith, grind (arith, common_steps), grind arith, c.are_masks.ensures.0 (grind arith))),
)

pub returns-in-Err-clause-range : goal.returns-in-Err-clause-range
returns-in-Err-clause-range c = λ _. (
  λ is. absurd (omega (arith, is)),
  λ no. absurd (no (grind arith, grind (arith, common_steps), grind arith, c.are_masks.ensures.0 (grind arith))),
)
