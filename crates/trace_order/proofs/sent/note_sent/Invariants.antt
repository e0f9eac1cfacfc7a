use Rattle.std.proofs.Common.{◌≡◌, ◌≤◌, ℕ, List, Some, map, take, length, option_map, string_bytes, if◌then◌else◌}
use Rattle.std.specs.HashMap.{get_by_text, spare}
use Rattle.trace_order.specs.Messages.{is_among}
use Rattle.trace_order.specs.Sent.{seen_sent, sent_with}
use Rattle.trace_order.proofs.sent.note_sent.Given as goal

abbrev pub invariant-loop-id : goal.invariant-loop-id
invariant-loop-id l = record {
  few : length l.noted.items ≤ length l.ids;
  rest : map seen_sent l.noted.items
      ≡ map (sent_with l.clock) (take (length l.noted.items) (map string_bytes l.ids));
  room : length l.noted.items ≤ spare l.sent;
  sends : (id : List ℕ)
      → (if is_among id (take (length l.noted.items) (map string_bytes l.ids)) then Some l.clock
      else option_map (λ clock. clock.items) (get_by_text l.sent id))
      ≡ (if is_among id (map string_bytes l.ids) then Some l.clock
      else option_map (λ clock. clock.items) (get_by_text l.initial.sent id));
}

abbrev pub decreases-loop-id : goal.decreases-loop-id
decreases-loop-id l = length l.noted.items
