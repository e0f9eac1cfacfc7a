use Rattle.wcp_order.proofs.Words.{◌≡◌, ◌-◌, ◌⊎◌, length, slice_index, HasGrown, IsSoundProgress, history_at}
use Rattle.wcp_order.proofs.order.Progress.run.Given as goal

abbrev pub invariant-loop-task : goal.invariant-loop-task
invariant-loop-task l = record {
  sound : IsSoundProgress l.n (history_at l.histories) l.self;
  grown : HasGrown l.initial.self l.self ⊎ (l.self ≡ l.initial.self);
}

abbrev pub decreases-loop-task : goal.decreases-loop-task
decreases-loop-task l = length (history_at l.histories l.p) - slice_index l.self.done.items l.p
