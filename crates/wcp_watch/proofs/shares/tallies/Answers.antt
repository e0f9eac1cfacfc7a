use Rattle.wcp_watch.proofs.Words.{◌≡◌, Some, arith, slice_get, cases_eq, common_steps, gets, share_of}
use Rattle.wcp_watch.proofs.shares.tallies.Goals as goal

pub loop-p-preserved : goal.loop-p-preserved
loop-p-preserved c =
    let old = c.loop-p.invariant in
    record {
      count = grind (arith, common_steps, old.count);
      shares = λ q probe below sits. grind (
        arith,
        common_steps,
        gets,
        cases_eq q c.loop-p.p,
        old.count,
        old.shares q probe,
        c.tally_at-tally.ensures.share probe,
      );
      rise = λ q probe below sits.
          grind (arith, common_steps, cases_eq q c.loop-p.p, old.rise q probe, c.tally_at-tally.ensures.rise probe);
    }

pub returns : goal.returns
returns c = record {
  count_is = grind (arith, common_steps);
  each = λ p probe below sits.
      let share : slice_get c.loop-p.tallies p ≡ Some (share_of probe) =
      c.loop-p.invariant.shares p probe (omega (arith, c.loop-p-test.false)) sits in
      grind (arith, common_steps, gets, share);
  rise = λ p probe below sits. c.loop-p.invariant.rise p probe (omega (arith, c.loop-p-test.false)) sits;
}
