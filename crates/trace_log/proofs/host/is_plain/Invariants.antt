use Rattle.trace_log.proofs.Words.{◌≡◌, take}
use Rattle.json.specs.Print.{escape}
use Rattle.trace_log.proofs.host.is_plain.Given as goal

abbrev pub invariant-loop-byte : goal.invariant-loop-byte
invariant-loop-byte l = escape (take l.byte-index l.name) ≡ take l.byte-index l.name
