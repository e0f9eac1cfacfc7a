use Rattle.std.proofs.Common.{◌≡◌, ◌++◌, take}
use Rattle.std.specs.Prelude.{All}
use Rattle.std.specs.List.{flat_map}
use Rattle.wcp_saved.specs.Watches.{tag_words, IsTag}
use Rattle.wcp_saved.proofs.watch_writing.put_tags.Given as goal

abbrev pub invariant-loop-tagged : goal.invariant-loop-tagged
invariant-loop-tagged l = record {
  words : l.words.items ≡ l.initial.words.items ++ flat_map tag_words (take l.tagged-index l.tags);
  range : All IsTag (take l.tagged-index l.tags);
}
