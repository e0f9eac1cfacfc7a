use Rattle.std.proofs.Common.{◌≡◌, ◌∙◌, get_or, sym}
use Rattle.std.proofs.lemmas.List.{get_or_default}
use Rattle.std.proofs.lemmas.List.Elements.{All-more}
use Rattle.wcp_saved.specs.Watches.{tag_words, IsTag}
use Rattle.wcp_saved.specs.declared.watch.Tagged.{Tagged}
use Rattle.wcp_saved.proofs.Spelled.{written_more}
use Rattle.wcp_saved.proofs.watch_writing.put_tags.Goals as goal

abbrev no_tag : Tagged
no_tag = record { process = 0; interval = 0; tag = 0 }

pub loop-tagged-preserved : goal.loop-tagged-preserved
loop-tagged-preserved c =
    let so_far = c.loop-tagged.invariant in
    let wrote = c.in_ok-put_tag.ensures in
    let tags = c.args.tags.now in
    let place = c.loop-tagged.tagged-index in
    record {
      words = written_more tag_words c.push.new.self.items c.loop-tagged.words.items c.put_tag.new.words.items tags
          place no_tag c.loop-tagged-test.true so_far.words wrote.words;
      range = All-more IsTag tags place no_tag c.loop-tagged-test.true so_far.range
          wrote.range;
    }
