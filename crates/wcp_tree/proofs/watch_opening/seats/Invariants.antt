use Rattle.std.proofs.Common.{◌≡◌, length}
use Rattle.wcp_tree.proofs.watch_opening.seats.Given as goal

abbrev pub invariant-loop : goal.invariant-loop
invariant-loop l = length l.seats.items ≡ l.counter
