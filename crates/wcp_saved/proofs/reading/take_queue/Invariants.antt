use Rattle.std.proofs.Common.{◌≡◌, ℕ, ◌++◌, List, take, drop}
use Rattle.std.specs.List.{flat_map}
use Rattle.wcp_saved.specs.Spelling.{counted, queue_words, IsQueue}
use Rattle.wcp_saved.proofs.reading.take_queue.Given as goal

abbrev pub invariant-loop : goal.invariant-loop
invariant-loop l = (queue : List (List ℕ)) (behind : List ℕ) → IsQueue queue → l.words ≡ queue_words queue ++ behind
    → (l.clocks.items ≡ take l.counter queue) × (l.rest ≡ flat_map counted (drop l.counter queue) ++ behind)
