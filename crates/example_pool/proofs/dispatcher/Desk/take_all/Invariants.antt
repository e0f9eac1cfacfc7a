use Rattle.example_pool.proofs.Words.{◌≡◌, ◌+◌, length, IsDispatching}
use Rattle.example_pool.proofs.dispatcher.Desk.take_all.Given as goal

abbrev pub invariant-loop-partner : goal.invariant-loop-partner
invariant-loop-partner g l =
    record {
      at_work : IsDispatching (length l.partners) l.probe l.self;
      unanswered : l.self.unanswered + l.partner-index ≡ length l.partners;
      answered : l.self.answered.jobs ≡ l.initial.self.answered.jobs + l.partner-index;
    }
