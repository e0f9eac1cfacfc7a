use Rattle.std.proofs.Common.{◌≡◌, ◌++◌, drop, map, option_map, string_bytes}
use Rattle.json.specs.Value.{items_view}
use Rattle.trace_messages.specs.Words.{ids_in}
use Rattle.trace_messages.proofs.ids.ids_in.Given as goal

abbrev pub invariant-loop-value : goal.invariant-loop-value
invariant-loop-value l =
    option_map (λ others. map string_bytes l.ids.items ++ others) (ids_in (items_view (drop l.value-index l.values)))
    ≡ ids_in (items_view l.values)
