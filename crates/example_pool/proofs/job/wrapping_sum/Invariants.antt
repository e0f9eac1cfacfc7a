use Rattle.example_pool.proofs.Words.{◌≡◌, ◌%◌, ◌^◌, take, sum}
use Rattle.example_pool.proofs.job.wrapping_sum.Given as goal

abbrev pub invariant-loop-number : goal.invariant-loop-number
invariant-loop-number l = l.total ≡ sum (take l.number-index l.numbers) % 2 ^ 64
