use Rattle.example_pool.proofs.Words.{◌≡◌, ℕ, ◌+◌, ◌%◌, ◌^◌, List, take, get_or, sym, ap, ◌∙◌, arith, sum, sum_by_more}
use Rattle.std.proofs.Math.Nat.{mod-add-mod}
use Rattle.example_pool.proofs.job.wrapping_sum.Goals as goal

-- one number more
more_added : (numbers : List ℕ) (i total number : ℕ)
    → sum (take (i + 1) numbers) ≡ sum (take i numbers) + get_or numbers i 0
    → total ≡ sum (take i numbers) % 2 ^ 64 → number ≡ get_or numbers i 0
    → (total + number) % 2 ^ 64 ≡ sum (take (i + 1) numbers) % 2 ^ 64
more_added numbers i total number more was is =
    ap (λ t. (t + number) % 2 ^ 64) was ∙ mod-add-mod (sum (take i numbers)) (2 ^ 64) number
    ∙ ap (λ n. (sum (take i numbers) + n) % 2 ^ 64) is ∙ ap (λ s. s % 2 ^ 64) (sym more)

pub loop-number-preserved : goal.loop-number-preserved
loop-number-preserved c =
    more_added c.args.numbers.now c.loop-number.number-index c.loop-number.total c.from-total.result
    (sum_by_more (λ x. x) c.args.numbers.now c.loop-number.number-index 0 (omega arith)) c.loop-number.invariant
    c.from-total.ensures
