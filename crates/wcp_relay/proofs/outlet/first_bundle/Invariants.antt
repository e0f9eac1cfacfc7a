use Rattle.wcp_relay.proofs.Words.{◌≡◌, ◌++◌, ◌-◌, List, length, Item}
use Rattle.wcp_relay.proofs.outlet.first_bundle.Given as goal

abbrev pub invariant-loop-item : goal.invariant-loop-item
invariant-loop-item l = (rest : List Item) × (l.hold.items ≡ l.bundle ++ rest)

abbrev pub decreases-loop-item : goal.decreases-loop-item
decreases-loop-item l = length l.hold.items - length l.bundle
