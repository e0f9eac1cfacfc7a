use Rattle.draw_layout.proofs.Words.{◌∙◌, false, false≢true, get_or, sym, arith, slice_get-get_or, Task}
use Rattle.wcp_model.specs.declared.workload.Action.TheVariants.{Observe}
use Rattle.wcp_model.proofs.StepsOfOrder.{interval_at_is}
use Rattle.draw_layout.proofs.Listing.{rows_empty, rows_stay, rows_written, truths_stay, truths_more, truths_below}
use Rattle.draw_layout.proofs.Listing.{no_truths, row_read, AreTrueRows-all}
use Rattle.draw_layout.proofs.rows.list_truths.Goals.{then-finds_true+in_ok-insert, else-finds_true}
use Rattle.draw_layout.proofs.rows.list_truths.Goals as goal

pub loop-place-init : goal.loop-place-init
loop-place-init c = rw c.requires.none (rows_empty c.args.n _ (no_truths c.args.order.now))

pub insert-requires : goal.insert-requires
insert-requires c =
    let order = c.args.order.now in
    let place = c.loop-place.place in
    let none : Task = record { p = 0; action = Observe false } in
    let task : Task = get_or order place none in
    let at = slice_get-get_or order place none c.loop-place-test.true in
    let below = (c.requires.within place none c.loop-place-test.true).0 in
    truths_below order place task at task.p _ _ (c.requires.intervals.each place task at
    ∙ interval_at_is c.args.n order task.p place) (row_read c.args.n task.p _ _ _ below c.loop-place.invariant)

pub loop-place-preserved : goal.loop-place-preserved
loop-place-preserved c =
    let order = c.args.order.now in
    let place = c.loop-place.place in
    let none : Task = record { p = 0; action = Observe false } in
    let task : Task = get_or order place none in
    let at = slice_get-get_or order place none c.loop-place-test.true in
    let below = (c.requires.within place none c.loop-place-test.true).0 in
    elim c.if-finds_true.branch [
      | then-finds_true+in_ok-insert w ↦ rw w.rows-is (rows_written c.args.n task.p _ _ _ _ below
          c.loop-place.invariant (λ p other r. truths_stay order place task at p r (λ same found. other (sym same)))
          (truths_more order place task at _ _ _ (sym c.finds_true.ensures ∙ w.if-finds_true.true)
          (c.requires.intervals.each place task at ∙ interval_at_is c.args.n order task.p place) w.in_ok-insert.ensures
          (row_read c.args.n task.p _ _ _ below c.loop-place.invariant)))
      | else-finds_true w ↦ rw w.rows-is (rows_stay c.args.n _ _ _ (λ p r. truths_stay order place task at p r
          (λ same found. false≢true (sym w.if-finds_true.false ∙ c.finds_true.ensures ∙ found))) c.loop-place.invariant)
    ]

pub returns : goal.returns
returns c = AreTrueRows-all c.args.n c.args.order.now c.loop-place.rows c.loop-place.place (omega arith)
    c.loop-place.invariant
