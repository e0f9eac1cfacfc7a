use Rattle.std.proofs.Common.{◌<◌, ℕ, slice_index_or}
use Rattle.wullaphi_record.specs.Recorded.{Recording}
use Rattle.wullaphi_record.specs.Logs.{DifferFrom}
use Rattle.wullaphi_record.proofs.log.is_new.Given as goal

abbrev pub invariant-loop-first : goal.invariant-loop-first
invariant-loop-first l = (first : ℕ) (one : Recording) → first < l.first
    → DifferFrom (slice_index_or l.records first one) (slice_index_or l.records l.second one)
