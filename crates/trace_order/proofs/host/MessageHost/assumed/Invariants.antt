use Rattle.std.proofs.Common.{◌≡◌, map, take}
use Rattle.std.specs.HashMap.{get_by_text}
use Rattle.trace_order.specs.Ids.{is_known}
use Rattle.trace_order.specs.Assumed.{assumed_event}
use Rattle.trace_order.proofs.host.MessageHost.assumed.Given as goal

abbrev pub invariant-loop-place : goal.invariant-loop-place
invariant-loop-place l = l.waits.items ≡ map (assumed_event (is_known (get_by_text l.announced))) (take l.place l.self.waits)
