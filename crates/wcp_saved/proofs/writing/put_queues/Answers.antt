use Rattle.std.proofs.Common.{arith}
use Rattle.std.proofs.lemmas.Grind.{common_steps}
use Rattle.std.proofs.lemmas.List.{append_assoc, length-map, take_all}
use Rattle.std.proofs.lemmas.List.Elements.{All-more, All-map}
use Rattle.wcp_saved.specs.Spelling.{queue_words, IsQueue}
use Rattle.wcp_saved.proofs.Spelled.{written_more_seen}
use Rattle.wcp_saved.proofs.writing.put_queues.Goals as goal

pub loop-queue-preserved : goal.loop-queue-preserved
loop-queue-preserved c =
    let so_far = c.loop-queue.invariant in
    let wrote = c.in_ok-put_queue.ensures in
    let queues = c.args.queues.now in
    let place = c.loop-queue.queue-index in
    let queue = c.queue-item.result in
    record {
      words = written_more_seen queue_words (λ queue. queue.items) c.push.new.self.items c.loop-queue.words.items
          c.put_queue.new.words.items queues place queue c.loop-queue-test.true so_far.words
          (rw (← c.queue-item.is, ← c.deref.ensures.value) wrote.words);
      range = All-more (λ queue. IsQueue queue.items) queues place queue c.loop-queue-test.true so_far.range
          (rw (← c.queue-item.is, ← c.deref.ensures.value) wrote.range);
    }

pub returns : goal.returns
returns c =
    let queues = c.args.queues.now in
    let all = take_all c.loop-queue.queue-index queues c.loop-queue-test.false in
    record {
      words = grind (arith, common_steps, take_all, append_assoc, length-map);
      range = All-map IsQueue (λ queue. queue.items) queues (rw all at c.loop-queue.invariant.range);
    }
