use Rattle.std.proofs.Common.{◌≡◌, arith}
use Rattle.wcp_world.proofs.Probes.{fresh_stands}
use Rattle.wcp_world.proofs.processes.Processes.new.Goals as goal

pub returns : goal.returns
returns c =
    let all : c.loop-id.id ≡ c.args.plan.now.n = omega arith in
    rw c.new-2.ensures (fresh_stands c.args.plan.now.n c.args.plan.now.watched c.args.plan.now.flag
    c.loop-id.probes.items (rw all at c.loop-id.invariant))
