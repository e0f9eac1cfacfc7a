use Rattle.trace_pairs.proofs.Words.{◌≡◌, ◌<◌, arith, length, inl, inr, subst, sym, ℕ}
use Rattle.std.proofs.lemmas.Bool.Decides.{eqb_tells}
use Rattle.trace_pairs.specs.Rows.{HasNone}
use Rattle.trace_pairs.proofs.Ending.{ends_lowest, none_before, none_has, none_through, same_refl, same_trans}
use Rattle.trace_pairs.proofs.rows.end_each.Goals as goal

pub loop-first-init : goal.loop-first-init
loop-first-init c = record {
  same = same_refl c.args.rows.now;
  before = λ p q below up within. absurd (omega (arith, below));
}

pub returns-in-Some : goal.returns-in-Some
returns-in-Some c rule logged hosts all =
    ends_lowest rule logged hosts c.args.rows.now all c.loop-first.rows c.end_with.new.rows c.loop-first.first
    c.in-Some.second c.loop-first.invariant.same c.loop-first.invariant.before c.in-Some.ensures

pub loop-first-preserved : goal.loop-first-preserved
loop-first-preserved c =
    let none = rw c.in_default.is at c.end_with.ensures in
    record {
      same = same_trans c.args.rows.now c.loop-first.rows c.end_with.new.rows c.loop-first.invariant.same none.1;
      before = none_through c.args.rows.now c.loop-first.rows c.loop-first.first c.loop-first.invariant.same
          c.loop-first.invariant.before none.0;
    }

pub returns : goal.returns
returns c rule logged hosts all = none_has rule logged hosts c.args.rows.now all
    (λ p q up within. c.loop-first.invariant.before p q
    (omega (arith, up, within, all.as_many, c.loop-first-test.false, c.loop-first.invariant.same.as_many)) up
    (omega (arith, within, all.as_many)))
