use Rattle.wcp_plain.proofs.Words.{◌≡◌, ◌<◌, ◌⊎◌, interval_at}
use Rattle.wcp_plain.proofs.OnePass.{IsPass}
use Rattle.wcp_plain.proofs.order.happened_before.Given as goal

abbrev pub invariant-loop-step : goal.invariant-loop-step
invariant-loop-step l =
    record {
      from : l.pass.from ≡ l.fn.from;
      pass : IsPass l.steps l.fn.from l.step-index l.pass.interval l.pass.after.items l.pass.carries.items;
      interval : l.interval ≡ interval_at l.steps l.to.process l.step-index;
      ahead : (l.to.interval ≡ 0) ⊎ (l.interval < l.to.interval);
    }
