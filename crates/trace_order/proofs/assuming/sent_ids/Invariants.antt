use Rattle.std.proofs.Common.{◌≡◌, filter, map, string_bytes, take}
use Rattle.std.specs.HashMap.{get_by_text}
use Rattle.trace_order.specs.Ids.{is_known}
use Rattle.trace_order.proofs.assuming.sent_ids.Given as goal

abbrev pub invariant-loop-id : goal.invariant-loop-id
invariant-loop-id l =
    map string_bytes l.copies.items ≡ filter (is_known (get_by_text l.announced)) (take l.id-index (map string_bytes l.ids))
