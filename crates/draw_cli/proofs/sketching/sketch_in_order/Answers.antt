use Rattle.draw_cli.proofs.Found.{may_split, has_members, order_within, order_fit, order_few}
use Rattle.draw_cli.proofs.sketching.sketch_in_order.Goals as goal

pub lay_out-requires : goal.lay_out-requires
lay_out-requires c =
    let n = c.args.workload.now.plan.n in
    let tasks = c.args.workload.now.tasks.items in
    let order = c.args.order.now in
    let report = (c.in_ok-outcome.ensures order c.requires.fit).report in
    record {
      few = c.requires.read.few_processes;
      few_tasks = order_few n tasks order c.requires.read c.requires.fit;
      within = order_within n tasks order c.requires.read c.requires.fit;
      fit = order_fit n tasks order c.requires.read c.requires.fit;
      cut = rw c.cut-cut.ensures
          (may_split n c.args.workload.now.plan.watched order c.in_ok-outcome.outcome.report report);
    }

pub drawing-requires : goal.drawing-requires
drawing-requires c =
    let n = c.args.workload.now.plan.n in
    let tasks = c.args.workload.now.tasks.items in
    let order = c.args.order.now in
    let report = (c.in_ok-outcome.ensures order c.requires.fit).report in
    record {
      few = rw c.requires.names c.requires.read.few_processes;
      few_tasks = order_few n tasks order c.requires.read c.requires.fit;
      within = rw c.requires.names (order_within n tasks order c.requires.read c.requires.fit);
      layout = rw c.requires.names c.in_ok-layout.ensures;
      members = rw c.requires.names (rw c.cut-cut.ensures
          (has_members n c.args.workload.now.plan.watched order c.in_ok-outcome.outcome.report report));
    }

pub returns : goal.returns
returns c = record {
  order = c.args.order.now;
  fit = c.requires.fit;
  outcome = c.in_ok-outcome.outcome;
  is_outcome = c.in_ok-outcome.ensures;
  layout = c.in_ok-layout.layout;
  is_drawing = rw (← c.requires.names) (rw c.cut-cut.ensures at c.in_ok-bytes.ensures);
  found_is = rw c.cut-cut.ensures at c.is_some.ensures;
}
