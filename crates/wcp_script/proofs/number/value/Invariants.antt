use Rattle.wcp_script.proofs.Words.{◌≡◌, ◌^◌, ◌<◌, take, digits_value, AllDigits}
use Rattle.wcp_script.proofs.number.value.Given as goal

abbrev pub invariant-loop-byte : goal.invariant-loop-byte
invariant-loop-byte l =
    AllDigits 10 (take l.byte-index l.digits) × (l.value ≡ digits_value 10 (take l.byte-index l.digits))
    × (l.value < 2 ^ 32)
