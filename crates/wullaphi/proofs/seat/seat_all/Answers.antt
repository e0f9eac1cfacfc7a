use Rattle.std.proofs.Common.{length, map, ap, arith}
use Rattle.std.specs.Vec.Iter.{into_iter_items}
use Rattle.wullaphi.proofs.Seating.{none_left, seated}
use Rattle.wullaphi.proofs.seat.seat_all.Goals as goal

pub unreachable-requires : goal.unreachable-requires
unreachable-requires g c =
    omega (arith, ap length c.in-Some.ensures.steps.0, c.in_default.ensures.cases.0)

pub loop-probe-preserved : goal.loop-probe-preserved
loop-probe-preserved g c =
    let old = c.loop-probe.invariant in
    let seats = c.loop-probe.seats.items in
    let probe = c.in-Some.ensures.steps.0 in
    let process = c.in-Some-next.ensures.items in
    record {
      probes = seated (λ seat. seat.probe) seats _ c.in_ok-push.ensures.items probe old.probes;
      processes = seated (λ seat. seat.process) seats _ c.in_ok-push.ensures.items process old.processes;
      as_many = omega (arith, old.as_many, ap length probe, ap length process);
    }

pub returns-clause-probes : goal.returns-clause-probes
returns-clause-probes g c =
    none_left (map (λ seat. seat.probe) c.loop-probe.seats.items) (into_iter_items c.loop-probe.probe-iterator)
    c.loop-probe.invariant.probes (omega (arith, c.in-None.ensures.steps.0))

pub returns-clause-processes : goal.returns-clause-processes
returns-clause-processes g c =
    none_left (map (λ seat. seat.process) c.loop-probe.seats.items) (into_iter_items c.loop-probe.left)
    c.loop-probe.invariant.processes (omega (arith, c.in-None.ensures.steps.0))
