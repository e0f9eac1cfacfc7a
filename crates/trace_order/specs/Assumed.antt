-- An order in which no event waits for a message that no event of the log sends.
use Rattle.std.specs.Prelude.{ℕ, Bool, List, filter, map}
use Rattle.trace_order.specs.Giving.{OrderState}
use Rattle.trace_order.specs.Ids.{is_known}
use Rattle.trace_order.specs.Messages.{MessageEvent}
use Rattle.trace_order.specs.Orders.{HostState}

abbrev pub assumed_event : (List ℕ → Bool) → MessageEvent → MessageEvent
assumed_event announced event = record event { receives = filter announced event.receives }

abbrev pub assumed_host : (List ℕ → Bool) → HostState → HostState
assumed_host announced host = record host { waits = map (assumed_event announced) host.waits }

-- Of the events that wait, none receives what no event sends.
abbrev pub assumed : OrderState → OrderState
assumed state = record state { hosts = map (assumed_host (is_known state.announced)) state.hosts }
