use Rattle.std.proofs.Common.{◌≡◌, ◌<◌, ℕ, flat_map, string_bytes, take, slice_index_or}
use Rattle.wullaphi_record.specs.Recorded.{IsKept, Recording}
use Rattle.wullaphi_record.specs.Logs.{Legible, line_of, logged_of}
use Rattle.wullaphi_record.proofs.log.recorded_log.Given as goal

abbrev pub invariant-loop-record : goal.invariant-loop-record
invariant-loop-record l = record {
  text : string_bytes l.log ≡ flat_map line_of (flat_map (logged_of l.records) (take l.record-index l.records));
  kept : (k : ℕ) (one : Recording) → k < l.record-index → IsKept (slice_index_or l.records k one);
  legible : (k : ℕ) (one : Recording) → k < l.record-index → Legible l.records (slice_index_or l.records k one);
}
