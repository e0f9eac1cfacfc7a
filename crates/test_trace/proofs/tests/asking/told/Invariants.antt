use Rattle.trace_source.specs.Clocked.{log_story}
use Rattle.trace_asking.specs.Asking.{CanGoOn}
use Rattle.test_trace.proofs.tests.asking.told.Given as goal

abbrev pub invariant-loop : goal.invariant-loop
invariant-loop g l = CanGoOn (log_story g.I.Read.remaining) l.asking
