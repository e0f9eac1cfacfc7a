use Rattle.std.proofs.Common.{◌<◌, ◌≤◌, ◌++◌, ◌+◌, ◌∙◌, [], length, get_or, drop, map, sym, arith}
use Rattle.std.specs.List.{flat_map}
use Rattle.std.proofs.lemmas.List.{append-nil}
use Rattle.wcp_saved.specs.Spelling.{queue_words}
use Rattle.wcp_saved.proofs.Spelled.{next_piece, taken_more, all_taken, enough, mapped_more}
use Rattle.wcp_saved.proofs.reading.queues_of.Goals as goal

pub loop-preserved : goal.loop-preserved
loop-preserved c = λ spelled are e.
    let i = c.loop.counter in
    let so_far = c.loop.invariant spelled are e in
    let first = c.take_word-count.ensures (length spelled) (flat_map queue_words spelled) e in
    let within : i < length spelled = omega (arith, first.0, c.min-count.ensures, c.loop-test.true) in
    let got = c.in_ok-queue.ensures (get_or spelled i []) (flat_map queue_words (drop (i + 1) spelled) ++ [])
    (are i [] within) (so_far.1 ∙ next_piece queue_words spelled i [] [] within) in (
      taken_more spelled (map (λ queue. queue.items) c.loop.queues.items)
          (map (λ queue. queue.items) c.push.new.self.items) i [] _ within so_far.0 got.0
          (mapped_more (λ queue. queue.items) c.loop.queues.items c.push.new.self.items _ c.in_ok-push.ensures.items),
      got.1,
    )

pub returns : goal.returns
returns c = λ spelled are e.
    let so_far = c.loop.invariant spelled are e in
    let first = c.take_word-count.ensures (length spelled) (flat_map queue_words spelled) e in
    let long = enough queue_words spelled [] _ (λ queue. omega arith)
    (first.1 ∙ sym (append-nil (flat_map queue_words spelled))) in
    let past : length spelled ≤ c.loop.counter = omega (arith, first.0, long, c.min-count.ensures, c.loop-test.false) in
    (all_taken queue_words spelled (map (λ queue. queue.items) c.loop.queues.items) c.loop.counter c.loop.rest.now []
    past so_far.0 so_far.1).0
