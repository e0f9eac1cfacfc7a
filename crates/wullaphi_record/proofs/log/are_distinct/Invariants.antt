use Rattle.std.proofs.Common.{◌<◌, ℕ}
use Rattle.wullaphi_record.specs.Logs.{IsNew}
use Rattle.wullaphi_record.proofs.log.are_distinct.Given as goal

abbrev pub invariant-loop-second : goal.invariant-loop-second
invariant-loop-second l = (second : ℕ) → second < l.second → IsNew l.records second
