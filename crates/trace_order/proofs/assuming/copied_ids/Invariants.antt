use Rattle.std.proofs.Common.{◌≡◌, map, string_bytes, take}
use Rattle.trace_order.proofs.assuming.copied_ids.Given as goal

abbrev pub invariant-loop-id : goal.invariant-loop-id
invariant-loop-id l = map string_bytes l.copies.items ≡ map string_bytes (take l.id-index l.ids)
