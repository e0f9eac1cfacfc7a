use Rattle.std.proofs.lemmas.Bool.{eqb-true}
use Rattle.trace_log.proofs.Words.{arith, ◌<◌, length, ap, ◌∙◌, sym, seen_clock}
use Rattle.trace_log.proofs.Words.{seen_member, add-one}
use Rattle.std.proofs.Math.ListN.{get_or-map}
use Rattle.std.proofs.lemmas.List.{length-set}
use Rattle.trace_log.proofs.Falls.{seen-length}
use Rattle.trace_log.proofs.Passing.{passed-next, no_lower-next, looks, lone_byte}
use Rattle.trace_log.proofs.look.look.Goals as goal

pub returns-then-rest-eq1 : goal.returns-then-rest-eq1
returns-then-rest-eq1 c is =
    let end = seen-length c.args.before.now in
    looks (seen_clock c.args.before.now) c.loop-place.next c.loop-place.place _ c.args.text.now c.loop-place.rest.now
    (omega (arith, end)) c.loop-place.invariant.1 c.loop-place.invariant.2
    (lone_byte c.loop-place.rest.now 125 c.if-rest-eq1.true (eqb-true _ 125 is))

pub loop-place-preserved : goal.loop-place-preserved
loop-place-preserved c =
    let clock = seen_clock c.args.before.now in
    let size = seen-length c.args.before.now in
    let numbers = c.loop-place.next in
    let i = c.loop-place.place in
    let within : i < length clock = omega (arith, size) in
    let room : i < length numbers = omega (arith, c.loop-place.invariant.0) in
    let one = seen_member c.index-before-place.result in
    let at = get_or-map seen_member c.args.before.now i c.index-before-place.result
    ∙ ap seen_member (sym c.index-before-place.is) in (
      length-set numbers i c.in-Some.number ∙ c.loop-place.invariant.0,
      rw add-one (passed-next clock numbers i c.in-Some.number _ one c.args.text.now c.loop-place.rest.now
          c.in-Some.after.now within room c.loop-place.invariant.1 (rw (
            at,
            ← c.lead_at.ensures,
            ←
                c.as_bytes.ensures.value,
          ) c.in-Some.ensures)),
      rw add-one (no_lower-next clock numbers i c.in-Some.number one within room (rw at c.if-number-one.false)
          c.loop-place.invariant.2),
    )
