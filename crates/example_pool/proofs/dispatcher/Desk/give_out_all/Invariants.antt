use Rattle.example_pool.proofs.Words.{◌≡◌, length, IsDispatching}
use Rattle.example_pool.proofs.dispatcher.Desk.give_out_all.Given as goal

abbrev pub invariant-loop-partner : goal.invariant-loop-partner
invariant-loop-partner g l =
    record {
      at_work : IsDispatching (length l.partners) l.probe l.self;
      unanswered : l.self.unanswered ≡ l.partner-index;
      answered : l.self.answered ≡ l.initial.self.answered;
    }
