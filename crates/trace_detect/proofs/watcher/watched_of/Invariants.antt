use Rattle.trace_detect.proofs.Words.{◌≡◌, take, map, watches}
use Rattle.trace_moment.specs.Views.{seen_watch}
use Rattle.trace_detect.proofs.watcher.watched_of.Given as goal

abbrev pub invariant-loop-condition : goal.invariant-loop-condition
invariant-loop-condition l = map seen_watch l.watched.items ≡ watches (take l.condition-index l.conditions)
