use Rattle.draw_layout.proofs.Words.{length, arith}
use Rattle.draw_layout.proofs.Marking.{none_marked}
use Rattle.draw_layout.proofs.cut_halves.mark_past.Goals as goal

pub loop-place-init : goal.loop-place-init
loop-place-init c = rw c.requires.none (none_marked (length c.args.cut.now) c.args.order.now c.args.cut.now)

pub returns : goal.returns
returns c =
    let is = c.loop-place.invariant in
    record {
      tasks = is.tasks;
      each = λ p place event. (is.only p place event, is.events p place event (omega arith));
    }
