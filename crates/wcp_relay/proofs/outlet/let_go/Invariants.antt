use Rattle.std.proofs.Common.{◌≡◌, drop}
use Rattle.wcp_relay.proofs.outlet.let_go.Given as goal

abbrev pub invariant-loop : goal.invariant-loop
invariant-loop l = l.hold ≡ record l.initial.hold { items = drop l.counter l.initial.hold.items }
