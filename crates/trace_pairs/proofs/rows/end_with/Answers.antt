use Rattle.trace_pairs.proofs.Words.{◌≡◌, ◌<◌, Bool, arith, length, subst, sym, get_or_default, slice_index_or}
use Rattle.trace_pairs.specs.Rows.{Ends}
use Rattle.trace_pairs.proofs.Ending.{ends_now, none_up_to, same_refl, stays}
use Rattle.trace_pairs.proofs.rows.end_with.Goals as goal

pub loop-second-init : goal.loop-second-init
loop-second-init c = record {
  same = same_refl c.args.rows.now;
  before = λ q above below. absurd (omega (arith, above, below));
}

pub returns-then-end : goal.returns-then-end
returns-then-end c =
    let rows = c.loop-second.rows in
    let second = c.loop-second.second in
    let one = c.index-rows-second.result in
    let old = slice_index_or rows second one in
    let ends = rw c.if-end.true at c.end.ensures in
    ends_now c.args.rows.now rows c.args.first second old c.end.new.self c.loop-second.invariant.same c.requires.rows
    (omega (arith, c.loop-second.auto.second))
    (omega (arith, c.loop-second-test.true, c.loop-second.invariant.same.as_many))
    (λ r. get_or_default rows second one r (omega (arith, c.loop-second-test.true))) ends c.loop-second.invariant.before

pub loop-second-preserved : goal.loop-second-preserved
loop-second-preserved c =
    let rows = c.loop-second.rows in
    let second = c.loop-second.second in
    let one = c.index-rows-second.result in
    let old = slice_index_or rows second one in
    let ends = rw c.if-end.false at c.end.ensures in
    let up : c.args.first < second = omega (arith, c.loop-second.auto.second) in
    let within : second < length c.args.rows.now =
    omega (arith, c.loop-second-test.true, c.loop-second.invariant.same.as_many) in
    record {
      same = stays c.args.rows.now rows c.args.first second old c.end.new.self c.loop-second.invariant.same
          c.requires.rows up within
          (λ r. get_or_default rows second one r (omega (arith, c.loop-second-test.true))) ends;
      before = none_up_to c.args.rows.now rows c.args.first second old c.end.new.self c.loop-second.invariant.same
          c.requires.rows up within
          (λ r. get_or_default rows second one r (omega (arith, c.loop-second-test.true))) ends
          c.loop-second.invariant.before;
    }
