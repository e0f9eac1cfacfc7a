use Rattle.trace_log.proofs.Words.{◌≡◌, ◌<◌, true, length, string_bytes, arith, bytes_eq, seen_clock}
use Rattle.trace_log.proofs.Falls.{falls-next, reached-in_place}
use Rattle.trace_log.proofs.order.stands_in_place.Goals as goal

pub loop-i-preserved : goal.loop-i-preserved
loop-i-preserved c =
    let within : c.loop-i.i < length c.args.later.now = omega arith in
    let named : bytes_eq (string_bytes c.index-later-i.result.name)
    (string_bytes c.index-earlier-i.result.name) ≡ true = grind arith in
    let reached = reached-in_place c.args.later.now c.loop-i.i c.index-later-i.result c.index-earlier-i.result within
    c.index-later-i.is c.if-next-one.false named in
    falls-next c.args.earlier.now (seen_clock c.args.later.now) c.loop-i.i c.index-earlier-i.result c.loop-i-test.true
    c.index-earlier-i.is c.loop-i.invariant reached
