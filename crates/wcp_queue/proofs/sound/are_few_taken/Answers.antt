use Rattle.wcp_queue.proofs.Words.{ℕ, ◌≤◌, refl, subst, arith, take_all}
use Rattle.std.specs.Prelude.{All}
use Rattle.std.proofs.lemmas.List.Elements.{All-more}
use Rattle.wcp_queue.proofs.sound.are_few_taken.Goals as goal

pub loop-count-preserved : goal.loop-count-preserved
loop-count-preserved c = All-more (λ (count : ℕ). count ≤ 4294967296) c.args.taken.now c.loop-count.count-index 0
    (omega arith) c.loop-count.invariant (omega arith)

pub returns : goal.returns
returns c =
    let taken = c.args.taken.now in
    let all = subst (All (λ (count : ℕ). count ≤ 4294967296)) (take_all c.loop-count.count-index taken (omega arith))
    c.loop-count.invariant in
    (λ _. all, λ _. refl)
