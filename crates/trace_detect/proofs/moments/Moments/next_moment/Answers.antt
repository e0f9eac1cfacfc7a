use Rattle.trace_detect.proofs.OnTheWay.{hands_moment, starts_way}
use Rattle.trace_detect.proofs.moments.Moments.next_moment.Goals as goal

pub returns-in_err-read_on : goal.returns-in_err-read_on
returns-in_err-read_on g c form conditions known told at is =
    hands_moment form conditions known _ told at c.read_on.new.self _ _ c.from_residual.ensures
    (c.in_err-read_on.ensures form conditions known told at (c.loop.invariant.way form conditions known told at is))

pub loop-preserved : goal.loop-preserved
loop-preserved g c =
    let old = c.loop.invariant in
    let can = old.can in
    let reads = c.in_ok-read_on.ensures can.form can.conditions can.input can.told can.logged
    (starts_way can.form can.conditions can.input _ can.told can.logged c.loop.self can.is) in
    record {
      can = record {
        form = can.form;
        conditions = can.conditions;
        input = can.input;
        told = can.told;
        logged = reads.logged;
        is = reads.following;
      };
      way = λ form conditions known told at is.
          c.in_ok-read_on.ensures form conditions known told at (old.way form conditions known told at is);
    }
