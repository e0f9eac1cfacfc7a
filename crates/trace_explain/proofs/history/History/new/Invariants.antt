use Rattle.std.proofs.Common.{◌≡◌, ◌++◌, map}
use Rattle.std.specs.Vec.Iter.{into_iter_items}
use Rattle.trace_explain.proofs.Taking.{fresh}
use Rattle.trace_explain.proofs.history.History.new.Given as goal

abbrev pub invariant-loop-one : goal.invariant-loop-one
invariant-loop-one l = record {
  whole : l.yielded ++ into_iter_items l.one-iterator ≡ l.fn.watched.items;
  hosts : l.hosts.items ≡ map fresh l.yielded;
}
