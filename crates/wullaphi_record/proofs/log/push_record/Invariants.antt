use Rattle.std.proofs.Common.{◌≡◌, ◌++◌, ◌<◌, ◌≤◌, ℕ, flat_map, length, string_bytes}
use Rattle.std.specs.Str.{IsUtf8}
use Rattle.trace_log.specs.Event.{most_bytes}
use Rattle.wullaphi_record.specs.Logs.{json_of, line_of, logged_at, logged_up_to}
use Rattle.wullaphi_record.proofs.log.push_record.Given as goal

abbrev pub invariant-loop-at : goal.invariant-loop-at
invariant-loop-at l = record {
  text : string_bytes l.log ≡ string_bytes l.fn.log ++ flat_map line_of (logged_up_to l.records l.own l.at);
  short : (i : ℕ) → i < l.at → length (json_of (logged_at l.records l.own i)) ≤ most_bytes;
  utf8 : (i : ℕ) → i < l.at → IsUtf8 (json_of (logged_at l.records l.own i));
}
