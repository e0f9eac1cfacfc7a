use Rattle.trace_detect.proofs.Words.{◌∙◌}
use Rattle.trace_detect.proofs.RunsTaken.{runs-none}
use Rattle.trace_detect.proofs.Watches.{watches_distinct}
use Rattle.trace_detect.proofs.run_watcher.RunWatcher.new.Goals as goal

pub new-requires-2-clause-distinct : goal.new-requires-2-clause-distinct
new-requires-2-clause-distinct c = rw c.in_ok-watched_of.ensures (watches_distinct c.args.conditions.now c.requires)

pub returns : goal.returns
returns c = record {
  watching = c.in_ok-new.ensures;
  watched = c.in_ok-new-2.ensures.watched ∙ c.in_ok-watched_of.ensures;
  taken = runs-none c.args.conditions.now c.in_ok-new-2.field-0 c.in_ok-new-2.ensures.taken;
  none_known = c.in_ok-new-2.ensures.unknown;
}
