use Rattle.wcp_queue.proofs.Words.{sym, ◌∙◌, arith}
use Rattle.wcp_queue.proofs.WatchedRows.{row_first, row_none}
use Rattle.wcp_queue.proofs.checker.find_row.Goals as goal

pub returns-then-get-p-clause-row : goal.returns-then-get-p-clause-row
returns-then-get-p-clause-row c =
    sym (row_first c.args.members.now c.args.p c.loop-row.row (omega (arith, c.len-row-end.ensures))
    (sym c.get.ensures.value ∙ c.if-get-p.true) c.loop-row.invariant)

pub returns-clause-none : goal.returns-clause-none
returns-clause-none c = λ _.
    row_none c.args.members.now c.args.p (λ k below. c.loop-row.invariant k (omega (arith, c.len-row-end.ensures)))
