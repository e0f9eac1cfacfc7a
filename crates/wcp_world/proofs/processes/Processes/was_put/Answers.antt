use Rattle.wcp_world.proofs.Words.{refl, slice_get_read}
use Rattle.wcp_world.proofs.Probes.{pending_within, put_stands}
use Rattle.wcp_world.proofs.processes.Processes.was_put.Goals as goal

pub returns : goal.returns
returns c =
    let inside = rw (← c.self.view_is) at (pending_within c.args.self.now c.args.p c.requires) in
    let at = slice_get_read c.self.inside.probes.items _ c.args.p c.index_mut.result.now refl inside
    c.index_mut.ensures.value in
    rw (← c.self.view_is) (put_stands _ c.args.p c.index_mut.result.now at c.was_put.new.self c.was_put.ensures)
