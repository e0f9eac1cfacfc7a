use Rattle.std.proofs.Common.{◌≡◌, map, take}
use Rattle.wullaphi_record.specs.Logs.{number_in}
use Rattle.wullaphi_record.proofs.numbers.numbers_at.Given as goal

abbrev pub invariant-loop-other : goal.invariant-loop-other
invariant-loop-other l = l.numbers.items ≡ map (number_in l.own l.at) (take l.other-index l.records)
