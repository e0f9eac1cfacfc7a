use Rattle.draw_layout.specs.Rows.{AreTruthsBefore}
use Rattle.draw_layout.proofs.Listing.{AreRowsOf}
use Rattle.draw_layout.proofs.rows.list_truths.Given as goal

abbrev pub invariant-loop-place : goal.invariant-loop-place
invariant-loop-place l = AreRowsOf l.n (AreTruthsBefore l.order l.place) l.rows
