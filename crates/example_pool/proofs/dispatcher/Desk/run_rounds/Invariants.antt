use Rattle.example_pool.proofs.Words.{◌≡◌, ◌*◌, length, IsDispatching, most_unanswered}
use Rattle.example_pool.proofs.dispatcher.Desk.run_rounds.Given as goal

abbrev pub invariant-loop-round : goal.invariant-loop-round
invariant-loop-round g l =
    record {
      at_work : IsDispatching (most_unanswered l.pace (length l.partners)) l.probe l.self;
      unanswered : l.self.unanswered ≡ 0;
      answered : l.self.answered.jobs ≡ l.round * length l.partners;
    }
