use Rattle.wcp_order.proofs.Words.{◌≡◌, ◌⊎◌, ◌<◌, ℕ, HasGrown, IsSoundProgress, IsStuck, history_at}
use Rattle.wcp_order.proofs.order.Progress.round.Given as goal

abbrev pub invariant-loop-p : goal.invariant-loop-p
invariant-loop-p l = record {
  sound : IsSoundProgress l.n (history_at l.histories) l.self;
  grown : HasGrown l.initial.self l.self
      ⊎ ((l.self ≡ l.initial.self) × ((p : ℕ) → p < l.p → IsStuck l.n (history_at l.histories p) l.self p));
}
