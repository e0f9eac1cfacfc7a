use Rattle.trace_source.specs.Clocked.{log_of}
use Rattle.test_trace.proofs.tests.asking.told.Goals as goal

pub loop-init : goal.loop-init
loop-init g c =
    let whole = log_of _ (g.I.Read.remaining c.args.input.now) c.in_ok-source.source in
    record {
      whole = whole;
      questions = c.args.questions.now;
      is = c.in_ok-asking.ensures.asking whole c.in_ok-source.ensures.gave;
    }

pub loop-preserved : goal.loop-preserved
loop-preserved g c =
    let can = c.loop.invariant in
    record {
      whole = can.whole;
      questions = can.questions;
      is = c.in-Ok-Some.ensures.asking can.whole can.questions can.is;
    }
