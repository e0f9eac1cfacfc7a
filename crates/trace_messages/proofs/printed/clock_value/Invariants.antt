use Rattle.std.proofs.Common.{◌≡◌, drop}
use Rattle.json.specs.Tree.{MembersHaveNumbers}
use Rattle.json.specs.Value.{members_view}
use Rattle.trace_order.specs.State.{names_in}
use Rattle.trace_messages.proofs.ClockMembers.{joined}
use Rattle.trace_messages.specs.Printed.{members_from}
use Rattle.trace_messages.proofs.printed.clock_value.Given as goal

abbrev pub invariant-loop-host : goal.invariant-loop-host
invariant-loop-host l = record {
  members : joined (members_view l.members.items) (members_from (names_in l.order.hosts.items) l.host (drop l.host
      l.clock))
      ≡ members_from (names_in l.order.hosts.items) 0 l.clock;
  numbers : MembersHaveNumbers (members_view l.members.items);
}
