use Rattle.std.proofs.lemmas.List.{ext_get_or}
use Rattle.wcp_watch.proofs.Words.{refl, arith, None}
use Rattle.wcp_watch.proofs.shares.are_same.Goals as goal

pub returns : goal.returns
returns c =
    let long = c.len-p-end.ensures.value in (
      (λ _. ext_get_or None c.args.one.now c.args.other.now
          (omega (arith, c.len.ensures.value, c.len-2.ensures.value, c.if-len.false))
          (λ k below. c.loop-p.invariant k (omega (arith, long, below, c.loop-p-test.false)))),
      (λ _. refl),
    )
