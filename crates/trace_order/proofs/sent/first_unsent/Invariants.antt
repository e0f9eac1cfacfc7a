use Rattle.std.proofs.Common.{◌≡◌, None, is_some, map, option_map, string_bytes, take}
use Rattle.std.specs.HashMap.{get_by_text}
use Rattle.trace_order.specs.Waiting.{first_not}
use Rattle.trace_order.proofs.sent.first_unsent.Given as goal

abbrev pub invariant-loop-id : goal.invariant-loop-id
invariant-loop-id l = first_not (λ id. is_some (option_map (λ clock. clock.items) (get_by_text l.sent id)))
    (take l.id-index (map string_bytes l.ids)) ≡ None
