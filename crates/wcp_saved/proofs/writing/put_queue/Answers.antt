use Rattle.std.proofs.Common.{◌≡◌, ◌∙◌, [], get_or, sym}
use Rattle.std.proofs.lemmas.List.{get_or_default}
use Rattle.std.proofs.lemmas.List.Elements.{All-more}
use Rattle.wcp_saved.specs.Spelling.{counted, IsClock}
use Rattle.wcp_saved.proofs.Spelled.{written_more}
use Rattle.wcp_saved.proofs.writing.put_queue.Goals as goal

pub loop-clock-preserved : goal.loop-clock-preserved
loop-clock-preserved c =
    let so_far = c.loop-clock.invariant in
    let wrote = c.in_ok-put_clock.ensures in
    let clocks = c.args.clocks.now in
    let place = c.loop-clock.clock-index in
    let read : get_or clocks place [] ≡ c.clock-item.result =
    get_or_default clocks place [] c.clock-item.result c.loop-clock-test.true ∙ sym c.clock-item.is in
    record {
      words = written_more counted c.push.new.self.items c.loop-clock.words.items c.put_clock.new.words.items clocks
          place [] c.loop-clock-test.true so_far.words (rw read wrote.words);
      range = All-more IsClock clocks place [] c.loop-clock-test.true so_far.range (rw read wrote.range);
    }
