use Rattle.draw_layout.proofs.Words.{length}
use Rattle.draw_layout.specs.Halves.{AreMarked}
use Rattle.draw_layout.proofs.cut_halves.mark_past.Given as goal

abbrev pub invariant-loop-place : goal.invariant-loop-place
invariant-loop-place l = AreMarked (length l.cut) l.order l.cut l.place l.halves l.later
