use Rattle.std.proofs.Common.{◌≡◌, ℕ, List, None, map, take, string_bytes, if◌then◌else◌}
use Rattle.std.specs.HashMap.{get_by_text}
use Rattle.trace_order.specs.Messages.{is_among}
use Rattle.trace_order.proofs.announce.retract.Given as goal

abbrev pub invariant-loop-id : goal.invariant-loop-id
invariant-loop-id l = (id : List ℕ) → get_by_text l.announced id
    ≡ (if is_among id (take l.id-index (map string_bytes l.ids)) then None else get_by_text l.initial.announced id)
