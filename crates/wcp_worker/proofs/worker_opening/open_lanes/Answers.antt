use Rattle.std.proofs.Common.{arith}
use Rattle.wcp_worker.proofs.OpenedRows.{lanes_more}
use Rattle.wcp_worker.proofs.worker_opening.open_lanes.Goals as goal

pub loop-p-preserved : goal.loop-p-preserved
loop-p-preserved c =
    let done = c.in_ok-row.ensures in
    lanes_more c.loop-p.p c.args.workers.now.items c.loop-p.workers.items c.open_row.new.workers.items c.in_ok-row.row
    c.index_mut.result.now c.loop-p.invariant done.count done.row done.each
    (omega (arith, done.count)) c.index_mut.ensures.value
