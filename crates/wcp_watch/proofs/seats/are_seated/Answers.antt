use Rattle.wcp_watch.proofs.Words.{arith, gets}
use Rattle.wcp_watch.proofs.Seating.{is_taken, one_more_seated}
use Rattle.wcp_watch.proofs.seats.are_seated.Goals as goal

pub returns-then-is_none : goal.returns-then-is_none
returns-then-is_none g c =
    (λ none. grind arith, λ all. grind (arith, gets, all c.loop-place.place c.loop-place-test.true))

pub loop-place-preserved : goal.loop-place-preserved
loop-place-preserved g c =
    one_more_seated c.args.seats.now c.loop-place.place c.loop-place.invariant
    (is_taken c.args.seats.now c.loop-place.place c.index-seats-place.result
    (omega arith) c.index-seats-place.is c.if-is_none.ensures)
