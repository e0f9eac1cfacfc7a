use Rattle.wcp_queue.proofs.Words.{◌+◌, AreSomeWatched}
use Rattle.std.specs.Prelude.{All}
use Rattle.wcp_queue.specs.Pairs.{ArePairsBefore}
use Rattle.wcp_queue.proofs.pairs.pairs_of.Given as goal

abbrev pub invariant-loop-a : goal.invariant-loop-a
invariant-loop-a l = record {
  pairs : ArePairsBefore l.n l.pairs.items l.a (l.a + 1);
  watched : All (AreSomeWatched l.n) l.pairs.items;
}
