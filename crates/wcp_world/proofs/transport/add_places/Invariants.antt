use Rattle.wcp_world.proofs.Words.{◌≡◌, ◌++◌, replicate, empty_hold}
use Rattle.wcp_world.proofs.transport.add_places.Given as goal

abbrev pub invariant-loop : goal.invariant-loop
invariant-loop l = l.places.items ≡ l.initial.places.items ++ replicate l.counter (empty_hold l.room)
