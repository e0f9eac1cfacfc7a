use Rattle.trace_pairs.proofs.Words.{arith, length}
use Rattle.trace_log.specs.Turns.{seen_logged}
use Rattle.trace_pairs.proofs.Rounds.{start, finish}
use Rattle.trace_pairs.proofs.rows.take_each.Goals as goal

pub loop-other-init : goal.loop-other-init
loop-other-init c = record {
  rows = c.requires.rows;
  taken = λ rule before hosts all comes.
      start rule before (seen_logged c.args.logged.now) hosts c.args.place c.args.holds c.args.rows.now all comes;
}

pub returns-then-branch : goal.returns-then-branch
returns-then-branch c rule before hosts all comes =
    let partly = c.loop-other.invariant.taken rule before hosts all comes in
    let taken = rw c.if-branch.true at (c.in_ok-take_with.ensures.taken rule before hosts partly comes) in
    rw c.pair_of.ensures taken

pub loop-other-preserved : goal.loop-other-preserved
loop-other-preserved c = record {
  rows = c.in_ok-take_with.ensures.rows;
  taken = λ rule before hosts all comes.
      let partly = c.loop-other.invariant.taken rule before hosts all comes in
      rw c.if-branch.false at (c.in_ok-take_with.ensures.taken rule before hosts partly comes);
}

pub returns : goal.returns
returns c rule before hosts all comes =
    let partly = c.loop-other.invariant.taken rule before hosts all comes in
    finish rule before (seen_logged c.args.logged.now) hosts c.args.place c.loop-other.other c.loop-other.rows
    (omega (arith, c.loop-other-test.false, partly.as_many)) partly
