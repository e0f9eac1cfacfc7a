use Rattle.wcp_world.proofs.Words.{refl, slice_get_read}
use Rattle.wcp_world.proofs.Probes.{emitted_counts}
use Rattle.wcp_world.proofs.processes.Processes.emitted.Goals as goal

pub returns : goal.returns
returns c =
    let inside = rw (← c.self.view_is) at c.requires in
    let at = slice_get_read c.self.inside.probes.items _ c.args.p c.index.result.now refl inside c.index.ensures in
    rw (← c.self.view_is, c.emitted.ensures) (emitted_counts _ c.args.p c.index.result.now at)
