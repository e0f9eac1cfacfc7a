use Rattle.wcp_queue.proofs.Words.{◌^◌, ◌≤◌, take}
use Rattle.std.specs.Prelude.{All}
use Rattle.wcp_queue.proofs.sound.are_few_taken.Given as goal

abbrev pub invariant-loop-count : goal.invariant-loop-count
invariant-loop-count l = All (λ count. count ≤ 2 ^ 32) (take l.count-index l.taken)
