use Rattle.std.proofs.Common.{◌≡◌, None, map, string_bytes, take}
use Rattle.trace_order.specs.State.{is_announced}
use Rattle.trace_order.specs.Waiting.{first_not}
use Rattle.trace_order.proofs.order.MessageOrder.first_unannounced.Given as goal

abbrev pub invariant-loop-id : goal.invariant-loop-id
invariant-loop-id l = first_not (is_announced l.self) (take l.id-index (map string_bytes l.ids)) ≡ None
