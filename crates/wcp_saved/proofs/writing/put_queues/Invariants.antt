use Rattle.std.proofs.Common.{◌≡◌, ◌++◌, map, take}
use Rattle.std.specs.List.{flat_map}
use Rattle.std.specs.Prelude.{All}
use Rattle.wcp_saved.specs.Spelling.{queue_words, IsQueue}
use Rattle.wcp_saved.proofs.writing.put_queues.Given as goal

abbrev pub invariant-loop-queue : goal.invariant-loop-queue
invariant-loop-queue l = record {
  words : l.words.items
      ≡ l.initial.words.items ++ flat_map queue_words (map (λ queue. queue.items) (take l.queue-index l.queues));
  range : All (λ queue. IsQueue queue.items) (take l.queue-index l.queues);
}
