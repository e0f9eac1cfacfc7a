use Rattle.wcp_world.proofs.Words.{◌<◌, ◌≤◌, length, set, sym, arith, get_or_read, true≢false, Link, held_at}
use Rattle.wcp_world.proofs.Words.{place_number}
use Rattle.wcp_world.proofs.AnsweredMoves.{puts, pushed, put_refused}
use Rattle.wcp_world.proofs.transport.Transport.put.Goals as goal

pub returns-then-len-self-clause-answered : goal.returns-then-len-self-clause-answered
returns-then-len-self-clause-answered c =
    let process = rw (← c.self.view_is) at c.requires.process in
    rw (← c.self.view_is) (λ plan steps put taken emissions stands some.
    let in_range : c.args.p < plan.n = omega (arith, process, stands.same_plan.n) in
    let cap = stands.same_plan.cap in
    let full : plan.cap ≤ length (held_at c.self.inside.places.items (place_number plan (Link c.args.p))).items =
    grind (arith, get_or_read) in (
      put_refused plan steps put taken _ stands c.args.p in_range full emissions some,
      λ done. absurd (true≢false (sym done)),
    ))

pub returns-clause-answered : goal.returns-clause-answered
returns-clause-answered c =
    let process = rw (← c.self.view_is) at c.requires.process in
    rw (← c.self.view_is) (λ plan steps put taken emissions stands some.
    let in_range : c.args.p < plan.n = omega (arith, process, stands.same_plan.n) in
    let cap = stands.same_plan.cap in
    let size = (stands.held (Link c.args.p) in_range).room in
    let fits : length (held_at c.self.inside.places.items (place_number plan (Link c.args.p))).items < plan.cap =
    grind (arith, get_or_read) in
    let now = pushed c.push.result _ _ c.push.ensures.full (grind (arith, get_or_read)) c.push.ensures.ok in
    let told = puts plan steps put taken _ stands c.args.p c.args.note (set c.self.inside.places.items c.args.p
    c.push.new.self) in_range fits (grind (arith, get_or_read)) emissions some in
    (told.0, λ done. told.1))
