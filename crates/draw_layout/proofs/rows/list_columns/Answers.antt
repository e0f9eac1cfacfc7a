use Rattle.draw_layout.proofs.Words.{◌∙◌, false, get_or, sym, arith, slice_get-get_or, Task}
use Rattle.wcp_model.specs.declared.workload.Action.TheVariants.{Observe}
use Rattle.draw_layout.proofs.Laying.{no_event}
use Rattle.draw_layout.proofs.Listing.{rows_empty, rows_stay, rows_written, columns_stay, columns_more, no_columns}
use Rattle.draw_layout.proofs.Listing.{other_process, row_read, AreEventColumns-all}
use Rattle.draw_layout.proofs.rows.list_columns.Goals.{then-is_event+in_ok-push, else-is_event}
use Rattle.draw_layout.proofs.rows.list_columns.Goals as goal

pub loop-place-init : goal.loop-place-init
loop-place-init c = rw c.requires.none (rows_empty c.args.n _ (no_columns c.args.order.now c.args.columns.now))

pub loop-place-preserved : goal.loop-place-preserved
loop-place-preserved c =
    let order = c.args.order.now in
    let columns = c.args.columns.now in
    let place = c.loop-place.place in
    let none : Task = record { p = 0; action = Observe false } in
    let task : Task = get_or order place none in
    let at = slice_get-get_or order place none c.loop-place-test.true in
    let below = (c.requires.within place none c.loop-place-test.true).0 in
    elim c.if-is_event.branch [
      | then-is_event+in_ok-push w ↦ rw (w.rows-is, w.in_ok-push.ensures) (rows_written c.args.n task.p _ _ _ _ below
          c.loop-place.invariant
          (λ p other r. columns_stay order place task at columns p r (other_process order place task at p other))
          (columns_more order place task at columns _ (sym c.is_event.ensures ∙ w.if-is_event.true)
          (row_read c.args.n task.p _ _ _ below c.loop-place.invariant)))
      | else-is_event w ↦ rw w.rows-is (rows_stay c.args.n _ _ _ (λ p r. columns_stay order place task at columns p r
          (no_event at (sym c.is_event.ensures ∙ w.if-is_event.false))) c.loop-place.invariant)
    ]

pub returns : goal.returns
returns c = AreEventColumns-all c.args.n c.args.order.now c.loop-place.rows c.args.columns.now c.loop-place.place
    (omega arith) c.loop-place.invariant
