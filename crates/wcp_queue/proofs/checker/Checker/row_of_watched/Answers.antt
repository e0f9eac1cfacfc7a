use Rattle.wcp_queue.proofs.Words.{checker_state, refl}
use Rattle.wcp_queue.proofs.CutsToCome.{row_is_found}
use Rattle.wcp_queue.proofs.checker.Checker.row_of_watched.Goals as goal

pub unreachable-requires : goal.unreachable-requires
unreachable-requires c =
    let member = rw (← c.self.view_is) at c.requires in
    row_is_found (checker_state c.self.inside) c.self.invariant c.args.p member (c.in-None.ensures.none refl)
