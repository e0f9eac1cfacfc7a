use Rattle.wcp_queue.proofs.Words.{AreSomeWatched}
use Rattle.std.specs.Prelude.{All}
use Rattle.wcp_queue.specs.Pairs.{ArePairsBefore}
use Rattle.wcp_queue.proofs.pairs.add_pairs.Given as goal

abbrev pub invariant-loop-b : goal.invariant-loop-b
invariant-loop-b l = record {
  pairs : ArePairsBefore l.n l.pairs.items l.a l.b;
  watched : All (AreSomeWatched l.n) l.pairs.items;
}
