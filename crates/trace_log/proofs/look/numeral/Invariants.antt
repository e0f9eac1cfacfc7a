use Rattle.trace_log.proofs.Words.{◌≡◌, ◌≤◌, true, take, all_ascii_digits, most_number}
use Rattle.std.specs.Str.Parse.{digits_value}
use Rattle.trace_log.proofs.look.numeral.Given as goal

abbrev pub invariant-loop-place : goal.invariant-loop-place
invariant-loop-place l = (l.number ≡ digits_value 10 (take l.place l.text))
    × (all_ascii_digits (take l.place l.text) ≡ true) × (l.number ≤ most_number)
