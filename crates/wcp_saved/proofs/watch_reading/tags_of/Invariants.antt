use Rattle.std.proofs.Common.{◌≡◌, ℕ, ◌++◌, [], List, take, drop}
use Rattle.std.specs.Prelude.{All}
use Rattle.std.specs.List.{flat_map}
use Rattle.wcp_saved.specs.Watches.{tag_words, tags_words, IsTag}
use Rattle.wcp_saved.specs.declared.watch.Tagged.{Tagged}
use Rattle.wcp_saved.proofs.watch_reading.tags_of.Given as goal

abbrev pub invariant-loop : goal.invariant-loop
invariant-loop l = (spelled : List Tagged) → All IsTag spelled → l.words ≡ tags_words spelled
    → (l.tags.items ≡ take l.counter spelled) × (l.rest ≡ flat_map tag_words (drop l.counter spelled) ++ [])
