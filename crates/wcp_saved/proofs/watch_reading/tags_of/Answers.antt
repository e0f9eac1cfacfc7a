use Rattle.std.proofs.Common.{◌<◌, ◌≤◌, ◌++◌, ◌+◌, ◌∙◌, [], length, get_or, drop, sym, arith}
use Rattle.std.specs.List.{flat_map}
use Rattle.std.proofs.lemmas.List.{append-nil}
use Rattle.wcp_saved.specs.Watches.{tag_words}
use Rattle.wcp_saved.specs.declared.watch.Tagged.{Tagged}
use Rattle.wcp_saved.proofs.Spelled.{next_piece, taken_more, all_taken, enough}
use Rattle.wcp_saved.proofs.watch_reading.tags_of.Goals as goal

abbrev no_tag : Tagged
no_tag = record { process = 0; interval = 0; tag = 0 }

pub loop-preserved : goal.loop-preserved
loop-preserved c = λ spelled are e.
    let i = c.loop.counter in
    let so_far = c.loop.invariant spelled are e in
    let first = c.take_word-count.ensures (length spelled) (flat_map tag_words spelled) e in
    let within : i < length spelled = omega (arith, first.0, c.min-count.ensures, c.loop-test.true) in
    let got = c.take_tag.ensures (get_or spelled i no_tag) (flat_map tag_words (drop (i + 1) spelled) ++ [])
    (are i no_tag within) (so_far.1 ∙ next_piece tag_words spelled i no_tag [] within) in (
      taken_more spelled c.loop.tags.items c.push.new.self.items i no_tag _ within so_far.0 got.0
          c.in_ok-push.ensures.items,
      got.1,
    )

pub returns : goal.returns
returns c = λ spelled are e.
    let so_far = c.loop.invariant spelled are e in
    let first = c.take_word-count.ensures (length spelled) (flat_map tag_words spelled) e in
    let long = enough tag_words spelled [] _ (λ tagged. omega arith)
    (first.1 ∙ sym (append-nil (flat_map tag_words spelled))) in
    let past : length spelled ≤ c.loop.counter = omega (arith, first.0, long, c.min-count.ensures, c.loop-test.false) in
    (all_taken tag_words spelled c.loop.tags.items c.loop.counter c.loop.rest.now [] past so_far.0 so_far.1).0
