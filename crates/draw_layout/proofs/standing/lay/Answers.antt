use Rattle.draw_layout.proofs.Words.{◌∙◌, ◌+◌, ◌≤◌, false, get_or, slice_index, sym, arith, false≢true, refl}
use Rattle.draw_layout.proofs.Words.{slice_get-get_or, Task}
use Rattle.wcp_model.specs.declared.workload.Action.TheVariants.{Observe}
use Rattle.draw_layout.proofs.Laying.{greatest_is, laid_past, laid_more, last_few, no_event, beq_true, beq_same}
use Rattle.draw_layout.proofs.standing.lay.Goals.{then-is_event+then-halves-place, else-is_event}
use Rattle.draw_layout.proofs.standing.lay.Goals.{else-is_event-via-then-is_event+else-halves-place}
use Rattle.draw_layout.proofs.standing.lay.Goals.{else-is_event-via-else-is_event}
use Rattle.draw_layout.proofs.standing.lay.Goals as goal

pub overflow_add-column : goal.overflow_add-column
overflow_add-column c =
    let is = c.loop-place.invariant in
    let none : Task = record { p = 0; action = Observe false } in
    let task : Task = get_or c.args.order.now c.loop-place.place none in
    let last : slice_index c.loop-place.last task.p ≤ c.args.floor + c.loop-place.place =
    last_few is task.p in
    omega (arith, last, is.few_columns (slice_index c.args.sent.now c.loop-place.place))

pub loop-place-preserved : goal.loop-place-preserved
loop-place-preserved c =
    let order = c.args.order.now in
    let place = c.loop-place.place in
    let none : Task = record { p = 0; action = Observe false } in
    let task : Task = get_or order place none in
    let at = slice_get-get_or order place none c.loop-place-test.true in
    let is = c.loop-place.invariant in
    let last : slice_index c.loop-place.last task.p ≤ c.args.floor + place = last_few is task.p in
    elim c.if-is_event.branch [
      | then-is_event+then-halves-place w ↦ rw (w.columns-is, w.last-is)
          (laid_more is c.requires.fit c.requires.may c.requires.sends at
          (sym c.is_event.ensures ∙ w.if-is_event.true) (beq_true _ _ w.if-halves-place.true)
          (c.requires.few place none c.loop-place-test.true) (omega arith) (omega arith) (omega arith)
          (greatest_is _ _ _ w.max.result w.max-column.result _ w.max.ensures w.max-column.ensures refl)
          (omega (arith, last, is.few_columns (slice_index c.args.sent.now place))))
      | else-is_event w ↦ rw (w.columns-is, w.last-is) (laid_past is (λ p event own. elim w.else-is_event.branch [
        | else-is_event-via-then-is_event+else-halves-place w' ↦
            false≢true (sym w'.if-halves-place.false ∙ beq_same _ _ own)
        | else-is_event-via-else-is_event w' ↦ no_event at (sym c.is_event.ensures ∙ w'.if-is_event.false) event
      ]))
    ]
