use Rattle.example_pool.proofs.Words.{◌≡◌, ◌+◌, IsDispatching}
use Rattle.example_pool.proofs.dispatcher.Desk.ask_in_turn.Given as goal

abbrev pub invariant-loop-partner : goal.invariant-loop-partner
invariant-loop-partner g l =
    record {
      at_work : IsDispatching 1 l.probe l.self;
      unanswered : l.self.unanswered ≡ 0;
      answered : l.self.answered.jobs ≡ l.initial.self.answered.jobs + l.partner-index;
    }
