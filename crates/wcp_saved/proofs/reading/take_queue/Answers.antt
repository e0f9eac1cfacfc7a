use Rattle.std.proofs.Common.{◌<◌, ◌≤◌, ◌++◌, ◌+◌, ◌∙◌, [], length, get_or, drop, arith}
use Rattle.std.specs.List.{flat_map}
use Rattle.wcp_saved.specs.Spelling.{counted}
use Rattle.wcp_saved.proofs.Spelled.{next_piece, taken_more, all_taken, enough}
use Rattle.wcp_saved.proofs.reading.take_queue.Goals as goal

pub loop-preserved : goal.loop-preserved
loop-preserved c = λ queue behind is e.
    let i = c.loop.counter in
    let so_far = c.loop.invariant queue behind is e in
    let first = c.take_word-count.ensures (length queue) (flat_map counted queue ++ behind) e in
    let within : i < length queue = omega (arith, first.0, c.min-count.ensures, c.loop-test.true) in
    let got = c.take_clock-clock.ensures (get_or queue i []) (flat_map counted (drop (i + 1) queue) ++ behind)
    (is.each i [] within) (so_far.1 ∙ next_piece counted queue i [] behind within) in (
      taken_more queue c.loop.clocks.items c.push.new.self.items i [] _ within so_far.0 got.0
          c.in_ok-push.ensures.items,
      got.1,
    )

pub returns : goal.returns
returns c = λ queue after is e.
    let so_far = c.loop.invariant queue after is e in
    let first = c.take_word-count.ensures (length queue) (flat_map counted queue ++ after) e in
    let long = enough counted queue after _ (λ clock. omega arith) first.1 in
    let past : length queue ≤ c.loop.counter = omega (arith, first.0, long, c.min-count.ensures, c.loop-test.false) in
    all_taken counted queue c.loop.clocks.items c.loop.counter c.loop.rest.now after past so_far.0 so_far.1
