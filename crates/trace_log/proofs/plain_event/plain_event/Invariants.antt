use Rattle.trace_log.proofs.Words.{◌≡◌, true, length, are_distinct}
use Rattle.trace_log.specs.Look.{lead_at}
use Rattle.trace_log.specs.SeenParts.{seen_parts}
use Rattle.trace_log.proofs.PlainEvents.{HasFound, first_names}
use Rattle.trace_log.proofs.plain_event.plain_event.Given as goal

abbrev pub invariant-loop-count : goal.invariant-loop-count
invariant-loop-count l = (length l.names ≡ 16)
    × HasFound l.line l.rest (lead_at l.count) (first_names l.count l.names) (seen_parts l.parts)
    × (are_distinct (first_names l.count l.names) ≡ true)
