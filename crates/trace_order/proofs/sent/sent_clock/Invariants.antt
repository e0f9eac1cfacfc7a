use Rattle.std.proofs.Common.{◌≡◌, map, option_map, string_bytes, take}
use Rattle.std.specs.HashMap.{get_by_text}
use Rattle.trace_order.specs.State.{sent_clock}
use Rattle.trace_order.proofs.sent.sent_clock.Given as goal

abbrev pub invariant-loop-id : goal.invariant-loop-id
invariant-loop-id l = l.clock.items ≡ sent_clock (λ id. option_map (λ clock. clock.items) (get_by_text l.sent id))
    (take l.id-index (map string_bytes l.ids))
