use Rattle.std.proofs.Common.{◌≡◌, map, take, string_bytes}
use Rattle.std.specs.Fmt.{decimal}
use Rattle.wullaphi_record.proofs.log.digits_of.Given as goal

abbrev pub invariant-loop-number : goal.invariant-loop-number
invariant-loop-number l = map string_bytes l.digits.items ≡ map decimal (take l.number-index l.numbers)
