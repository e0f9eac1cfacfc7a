use Rattle.draw_layout.specs.Rows.{AreColumnsBefore}
use Rattle.draw_layout.proofs.Listing.{AreRowsOf}
use Rattle.draw_layout.proofs.rows.list_columns.Given as goal

abbrev pub invariant-loop-place : goal.invariant-loop-place
invariant-loop-place l = AreRowsOf l.n (AreColumnsBefore l.order l.columns l.place) l.rows
