use Rattle.std.proofs.Common.{◌≡◌, List}
use Rattle.trace_order.specs.Giving.{state_of}
use Rattle.trace_order.specs.Messages.{MessageEvent}
use Rattle.trace_order.specs.Orders.{Ordered}
use Rattle.trace_order.specs.State.{HasOrdered, waiting_in}
use Rattle.trace_messages.specs.Lines.{GivesOn}
use Rattle.trace_messages.specs.Said.{IsGivingOn, waits_in}
use Rattle.trace_messages.proofs.message_log.MessageLog.give_on.Given as goal

abbrev pub invariant-loop : goal.invariant-loop
invariant-loop l = record {
  given : (log : List MessageEvent) (given : List Ordered) → HasOrdered log given l.initial.self.order
      → GivesOn log given l.self.order (waits_in l.initial.self) (waits_in l.self);
  giving : IsGivingOn (waits_in l.initial.self) (state_of l.initial.self.order) (waits_in l.self)
      (state_of l.self.order);
  rest : l.self
      ≡ record l.initial.self { order = l.self.order; said = l.self.said; unsaid = l.self.unsaid };
}

abbrev pub decreases-loop : goal.decreases-loop
decreases-loop l = waiting_in l.self.order.hosts.items
