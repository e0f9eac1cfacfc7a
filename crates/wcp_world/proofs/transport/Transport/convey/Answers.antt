use Rattle.std.proofs.Common.{arith}
use Rattle.std.proofs.lemmas.List.{with_items_is}
use Rattle.wcp_world.proofs.AnsweredMoves.{two_places, was_advanced, refused_named}
use Rattle.wcp_world.proofs.transport.Transport.convey.Goals as goal

pub advance-requires : goal.advance-requires
advance-requires c =
    let (plan, steps, put, taken, stands) = rw (← c.self.view_is) at c.requires.conveying in
    let moves = rw (c.in-Some.is, ← c.self.view_is) at c.way.ensures in
    let two = two_places plan steps put taken _ stands c.args.step c.in-Some.from c.in-Some.to
    (moves plan steps put taken stands) in
    rw c.deref_mut.ensures.value (record { from = two.0; to = two.1; apart = two.2 })

pub returns-in-None-clause-answered : goal.returns-in-None-clause-answered
returns-in-None-clause-answered c plan steps put taken stands =
    let none = rw c.in-None.is at c.way.ensures in
    refused_named plan steps put taken c.args.self.now stands c.args.step c.requires.relays
    (none plan steps put taken stands)

pub returns-in-Some-clause-answered : goal.returns-in-Some-clause-answered
returns-in-Some-clause-answered c =
    let moves = rw (c.in-Some.is, ← c.self.view_is) at c.way.ensures in
    let places = c.deref_mut.ensures.value in
    rw (← c.self.view_is, with_items_is c.self.inside.places c.advance.new.places (omega arith))
    (λ plan steps put taken stands.
    was_advanced plan steps put taken _ stands c.args.step c.in-Some.from c.in-Some.to
    (moves plan steps put taken stands) c.advance.result c.advance.new.places
    (rw places at c.advance.ensures.answered) (rw places at c.advance.ensures.moved)
    (rw places at c.advance.ensures.refused))
