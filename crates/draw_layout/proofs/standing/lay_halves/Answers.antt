use Rattle.draw_layout.proofs.Words.{◌≡◌, ℕ, common_steps, slice_index, arith, get_or_past, cases_lt, replicate, length}
use Rattle.draw_layout.proofs.Halves.{may_first, may_second, second_starts, both_laid}
use Rattle.draw_layout.proofs.standing.lay_halves.Goals as goal

-- each of some zeros is 0
zeros : (n i : ℕ) → slice_index (replicate n 0) i ≡ 0
zeros n i = grind (arith, common_steps, cases_lt i n, get_or_past {X = ℕ} (replicate n 0) i 0)

pub lay-requires-clause-may : goal.lay-requires-clause-may
lay-requires-clause-may c = rw c.requires.none (may_first c.args.order.now c.args.halves.now _ c.requires.closed
    (zeros (length c.args.order.now)))

pub lay-requires-2-clause-may : goal.lay-requires-2-clause-may
lay-requires-2-clause-may c = may_second c.args.order.now c.args.halves.now c.args.columns.now _ _
    (λ i. rw c.requires.none (zeros (length c.args.order.now) i)) c.lay.ensures

pub lay-requires-2-clause-start : goal.lay-requires-2-clause-start
lay-requires-2-clause-start c = second_starts c.args.order.now c.args.halves.now c.args.columns.now _ _
    (λ i. rw c.requires.none (zeros (length c.args.order.now) i)) c.lay.ensures _
    (λ i. omega (arith, c.greatest-line.ensures.above i))

pub returns : goal.returns
returns c = both_laid c.args.order.now c.args.halves.now c.args.columns.now _ _
    (λ i. rw c.requires.none (zeros (length c.args.order.now) i)) c.lay.ensures _
    (λ i. omega (arith, c.greatest-line.ensures.above i)) _ _ (omega arith) (omega (
      arith,
      c.greatest-line.ensures.one (length c.args.order.now) (λ i. omega (arith, c.lay.ensures.few_columns i)),
    )) c.requires.fit c.lay-2.ensures
