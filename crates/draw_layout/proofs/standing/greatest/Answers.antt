use Rattle.draw_layout.proofs.Words.{arith, cases_eq}
use Rattle.draw_layout.proofs.standing.greatest.Goals as goal

pub loop-column-preserved : goal.loop-column-preserved
loop-column-preserved c = record {
  above = λ i below. grind (arith, c.loop-column.invariant.above i, cases_eq i c.loop-column.column-index);
  one = λ limit all. omega (arith, c.loop-column.invariant.one limit all, all c.loop-column.column-index);
}
