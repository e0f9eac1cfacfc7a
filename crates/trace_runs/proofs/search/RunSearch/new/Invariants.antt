use Rattle.std.proofs.Common.{◌≡◌, ◌++◌, length, map}
use Rattle.std.specs.Vec.Iter.{into_iter_items}
use Rattle.trace_runs.proofs.KeptStart.{fresh_kept}
use Rattle.trace_runs.proofs.search.RunSearch.new.Given as goal

abbrev pub invariant-loop-one : goal.invariant-loop-one
invariant-loop-one l = record {
  whole : l.yielded ++ into_iter_items l.one-iterator ≡ l.fn.watched.items;
  queues : l.queues.items ≡ map (fresh_kept (length l.fn.watched.items)) l.yielded;
  many : l.hosts ≡ length l.fn.watched.items;
}
