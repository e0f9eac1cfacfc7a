use Rattle.std.proofs.Common.{◌≡◌, map, take, string_bytes}
use Rattle.trace_order.specs.Sent.{seen_sent, sent_with}
use Rattle.trace_order.proofs.sent.sent_with.Given as goal

abbrev pub invariant-loop-id : goal.invariant-loop-id
invariant-loop-id l = map seen_sent l.noted.items ≡ map (sent_with l.clock) (take l.id-index (map string_bytes l.ids))
