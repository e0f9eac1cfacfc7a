use Rattle.wcp_order.proofs.Words.{◌≡◌, ◌+◌, length, slice_index, Some, slice_get, arith, ap, ◌∙◌, sym, length_push}
use Rattle.wcp_order.proofs.Words.{history_at}
use Rattle.wcp_order.proofs.Advancing.{IsProgress_next}
use Rattle.wcp_order.proofs.Histories.{history_read}
use Rattle.wcp_order.proofs.order.Progress.run.Goals as goal

pub loop-task-preserved : goal.loop-task-preserved
loop-task-preserved c =
    let task = c.in-Some.task in
    let self = c.loop-task.self in
    let history =
    history_read c.args.histories.now c.args.p c.index-histories-p.result (omega arith) c.index-histories-p.is in
    let at : slice_get (history_at c.args.histories.now c.args.p) (slice_index self.done.items c.args.p) ≡ Some task =
    rw (history, sym c.deref.ensures.value) c.in-Some.ensures.place in
    let longer : length c.perform.new.self.order.items ≡ length self.order.items + 1 =
    ap length c.in_ok-perform.ensures.order ∙ length_push self.order.items task in
    record {
      sound = rw (c.in_ok-perform.ensures.order, c.in_ok-perform.ensures.done, c.in_ok-perform.ensures.in_transit)
          (IsProgress_next c.args.n c.args.p (history_at c.args.histories.now) _ _ _ task c.loop-task.invariant.sound
          c.requires.history at c.in-Some.ensures.ready);
      grown = grind (arith, longer, c.loop-task.invariant.grown);
    }
