use Rattle.wcp_watch.proofs.Words.{refl, true≢false, length, slice_get, sym, ap, ◌∙◌, arith, is_some}
use Rattle.wcp_watch.proofs.Seating.{none_seated, one_seated, another_watch, came_before, was_left, is_free, is_taken}
use Rattle.wcp_watch.proofs.seats.seat.Goals as goal

pub loop-end-init : goal.loop-end-init
loop-end-init g c =
    none_seated g.E.End.watch_of g.E.End.place_of c.args.watch
    (length c.args.seats.now) c.args.ends.items c.args.seats.now
    refl c.requires.free

pub returns-then-watch_number-watch-clause-exact : goal.returns-then-watch_number-watch-clause-exact
returns-then-watch_number-watch-clause-exact g c = (
  λ is. absurd (true≢false (sym is)),
  λ of. absurd (another_watch c.pop.new.self.items c.in-Some.end c.loop-end.invariant c.in-Some.ensures.items
      (λ same. c.if-watch_number-watch.true (c.watch_number.ensures ∙ same)) of),
)

pub prove-unreachable-requires : goal.prove-unreachable-requires
prove-unreachable-requires g c =
    let among = was_left c.pop.new.self.items c.in-Some.end c.loop-end.invariant c.in-Some.ensures.items in
    let within = rw among.2 at (c.requires.within among.0 c.in-Some.end among.1) in
    omega (
      arith,
      within (sym c.watch_number.ensures ∙ c.if-watch_number-watch.false),
      c.place-place.ensures,
      c.loop-end.invariant.count,
    )

pub returns-then-is_some-clause-exact : goal.returns-then-is_some-clause-exact
returns-then-is_some-clause-exact g c = (
  λ is. absurd (true≢false (sym is)),
  λ of.
      let there =
      is_taken c.loop-end.seats c.place-place.result c.index-seats-place.result (omega arith) c.index-seats-place.is
      (ap is_some c.index-seats-place.is ∙ sym c.if-is_some.ensures) in
      absurd (came_before c.pop.new.self.items c.in-Some.end c.loop-end.invariant c.in-Some.ensures.items
      there.0 (ap (slice_get c.loop-end.seats) (sym c.place-place.ensures) ∙ there.1) of),
)

pub loop-end-preserved : goal.loop-end-preserved
loop-end-preserved g c =
    rw c.place-place.ensures (one_seated c.pop.new.self.items c.in-Some.end c.loop-end.invariant c.in-Some.ensures.items
    (sym c.watch_number.ensures ∙ c.if-watch_number-watch.false)
    (omega (arith, c.place-place.ensures, c.loop-end.invariant.count))
    (λ other at.
    is_free c.loop-end.seats c.place-place.result c.index-seats-place.result (omega arith) c.index-seats-place.is
    (ap is_some c.index-seats-place.is ∙ sym c.if-is_some.ensures) other
    (ap (slice_get c.loop-end.seats) c.place-place.ensures ∙ at)))
