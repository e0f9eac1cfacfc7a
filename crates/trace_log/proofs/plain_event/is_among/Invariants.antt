use Rattle.trace_log.proofs.Words.{◌≡◌, false, take, list_any, bytes_eq}
use Rattle.trace_log.proofs.plain_event.is_among.Given as goal

abbrev pub invariant-loop-other : goal.invariant-loop-other
invariant-loop-other l = list_any (λ other. bytes_eq l.name other.now) (take l.other-index l.names) ≡ false
