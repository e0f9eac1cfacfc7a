use Rattle.std.proofs.Common.{◌≡◌, ℕ, ◌++◌, [], List, map, take, drop}
use Rattle.std.specs.Prelude.{All}
use Rattle.std.specs.List.{flat_map}
use Rattle.wcp_saved.specs.Spelling.{queue_words, queues_words, IsQueue}
use Rattle.wcp_saved.proofs.reading.queues_of.Given as goal

abbrev pub invariant-loop : goal.invariant-loop
invariant-loop l = (spelled : List (List (List ℕ))) → All IsQueue spelled → l.words ≡ queues_words spelled
    → (map (λ queue. queue.items) l.queues.items ≡ take l.counter spelled)
    × (l.rest ≡ flat_map queue_words (drop l.counter spelled) ++ [])
