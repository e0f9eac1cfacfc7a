use Rattle.wcp_world.proofs.Words.{set, arith, get_or_read}
use Rattle.wcp_world.proofs.AnsweredMoves.{mark_fits, mark_given, pushed}
use Rattle.wcp_world.proofs.transport.Transport.lose.Goals as goal

pub returns : goal.returns
returns c = rw (← c.self.view_is) (λ plan steps put taken stands in_range live counted.
    let fits = mark_fits plan steps put taken _ stands c.args.p in_range live in
    let now = pushed c.push.result _ _ c.push.ensures.full (grind (arith, get_or_read)) c.push.ensures.ok in
    mark_given plan steps put taken _ stands c.args.p
    (set c.self.inside.places.items c.args.p c.push.new.self) in_range live (grind (arith, get_or_read)))
