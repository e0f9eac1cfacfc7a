use Rattle.draw_layout.proofs.Words.{◌≡◌, [], replicate}
use Rattle.draw_layout.proofs.rows.empty_rows.Given as goal

abbrev pub invariant-loop : goal.invariant-loop
invariant-loop l = l.rows.items ≡ replicate l.counter []
