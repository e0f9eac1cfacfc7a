use Rattle.wcp_world.proofs.Words.{drop, set, arith, get_or_read, Root, InboxOf, held_at, place_number}
use Rattle.wcp_world.proofs.Places.{number_within}
use Rattle.wcp_world.proofs.AnsweredMoves.{number_same, with_first, taken_after}
use Rattle.wcp_world.proofs.transport.Transport.take_next.Goals as goal

pub returns : goal.returns
returns c =
    let inbox = rw (← c.self.view_is) at c.inbox-root.ensures in
    rw (← c.self.view_is) (λ plan steps put taken item stands is_next.
    let root = number_same c.self.inside.plan plan stands.same_plan (InboxOf Root) in
    let within = number_within plan (InboxOf Root) tt in
    taken_after plan steps put taken _ stands item (drop 1 (held_at c.self.inside.places.items
    (place_number plan (InboxOf Root))).items) (set c.self.inside.places.items c.inbox-root.result c.pop.new.self)
    (grind (arith, with_first)) (grind (arith, get_or_read)))
