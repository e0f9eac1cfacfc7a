use Rattle.example_pool.proofs.Words.{◌≡◌, IsAnswering}
use Rattle.example_pool.proofs.replica.Replica.run.Given as goal

abbrev pub invariant-loop : goal.invariant-loop
invariant-loop g l =
    record {
      answering : IsAnswering l.counter l.probe;
      jobs : l.share.jobs ≡ l.counter;
    }
