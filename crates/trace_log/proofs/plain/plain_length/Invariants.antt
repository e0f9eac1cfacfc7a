use Rattle.trace_log.proofs.Words.{◌≡◌, take}
use Rattle.json.specs.Print.{escape}
use Rattle.trace_log.proofs.plain.plain_length.Given as goal

abbrev pub invariant-loop-place : goal.invariant-loop-place
invariant-loop-place l = escape (take l.place l.text) ≡ take l.place l.text
