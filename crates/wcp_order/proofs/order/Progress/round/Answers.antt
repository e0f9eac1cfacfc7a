use Rattle.wcp_order.proofs.Words.{◌≡◌, ℕ, ◌+◌, ◌<◌, ◌⊎◌, List, arith, Task, HasGrown, IsStuck, history_at}
use Rattle.wcp_order.specs.declared.order.Progress.{Progress}
use Rattle.wcp_order.proofs.order.Progress.round.Goals as goal

-- what a round has done so far, after one more process has run
round_more : (n : ℕ) (history : ℕ → List Task) (start before after : Progress) (p : ℕ)
    → HasGrown start before ⊎ ((before ≡ start) × ((k : ℕ) → k < p → IsStuck n (history k) before k))
    → HasGrown before after ⊎ (after ≡ before) → IsStuck n (history p) after p
    → HasGrown start after ⊎ ((after ≡ start) × ((k : ℕ) → k < p + 1 → IsStuck n (history k) after k))
round_more n history start before after p so_far next stuck = grind arith

pub loop-p-preserved : goal.loop-p-preserved
loop-p-preserved c = record {
  sound = c.in_ok-run.ensures.sound;
  grown = round_more c.args.n (history_at c.args.histories.now) c.args.self.now c.loop-p.self c.run.new.self c.loop-p.p
      c.loop-p.invariant.grown c.in_ok-run.ensures.grown c.in_ok-run.ensures.stuck;
}
