use Rattle.trace_detect.proofs.Watches.{knows_none}
use Rattle.trace_detect.proofs.judged.add_judge.Goals as goal

pub returns : goal.returns
returns c = record {
  judge = record { judge = c.in_ok-judge.judge; tally = c.zero-tally.result };
  added = c.in_ok-push.ensures.items;
  knows = λ conditions.
      knows_none conditions c.args.condition.now c.in_ok-judge.judge c.zero-tally.result c.in_ok-judge.ensures
      c.zero-tally.ensures.events c.zero-tally.ensures.matched;
}
