use Rattle.std.proofs.Common.{◌≡◌, take}
use Rattle.wcp_c.proofs.shelf.Shelf.to_tags.Given as goal

abbrev pub invariant-loop-tagged : goal.invariant-loop-tagged
invariant-loop-tagged l = l.tags.items ≡ take l.tagged-index l.self
