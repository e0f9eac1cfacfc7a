use Rattle.wcp_queue.proofs.Words.{sym, ◌∙◌, arith, inl, inr, cases_Bool, true≢false}
use Rattle.wcp_queue.proofs.sound.are_some_watched.Goals as goal

pub returns : goal.returns
returns c =
    let seen = c.loop-p.invariant in
    let numbers = seen.numbers (omega arith) in (
      λ is. record { some = seen.some is; within = λ q has. seen.within q (omega (arith, numbers q has)) has },
      λ are. elim (cases_Bool c.loop-p.some) [
        | inl is ↦ is
        | inr is ↦
            let (q, has) = are.some in
            absurd (true≢false (sym has ∙ seen.none is q (omega (arith, numbers q has))))
      ],
    )
