use Rattle.std.proofs.Common.{◌≡◌, map, Ok}
use Rattle.example_pool.proofs.pool.shares_of.Given as goal

abbrev pub invariant-loop-answer : goal.invariant-loop-answer
invariant-loop-answer l = l.yielded ≡ map Ok l.shares.items
