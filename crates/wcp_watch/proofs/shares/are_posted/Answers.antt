use Rattle.wcp_watch.proofs.Words.{refl, arith, cases_lt, common_steps, gets}
use Rattle.wcp_watch.proofs.shares.are_posted.Goals as goal

pub returns : goal.returns
returns c =
    let few = c.loop-p.invariant.few (omega arith) in (
      (λ _ p. grind (arith, common_steps, gets, few, c.loop-p.invariant.posted p, cases_lt p 16)),
      (λ _. refl),
    )
