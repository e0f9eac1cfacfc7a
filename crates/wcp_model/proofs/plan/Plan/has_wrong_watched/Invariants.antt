use Rattle.wcp_model.proofs.Words.{◌≡◌, ◌↔◌, ℕ, ◌<◌, true, false, IsTrue, AreProcessNumbers}
use Rattle.std.specs.FinSet as set
use Rattle.wcp_model.proofs.plan.Plan.has_wrong_watched.Given as goal

abbrev pub invariant-loop-p : goal.invariant-loop-p
invariant-loop-p l = record {
  within : 0 < l.p → AreProcessNumbers l.self.watched;
  own : (q : ℕ) → q < l.p → set.contains l.self.watched q ≡ true → q < l.self.n;
  nobody : IsTrue l.nobody ↔ ((q : ℕ) → q < l.p → set.contains l.self.watched q ≡ false);
}
