use Rattle.draw_layout.proofs.Words.{IsLaid}
use Rattle.draw_layout.proofs.standing.lay.Given as goal

abbrev pub invariant-loop-place : goal.invariant-loop-place
invariant-loop-place l = IsLaid l.order l.halves l.half l.floor l.initial.columns l.place l.columns l.last
