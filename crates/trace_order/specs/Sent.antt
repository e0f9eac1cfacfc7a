-- The ids that were sent, each with the clock of the event that sent it.
use Rattle.std.specs.Prelude.{ℕ, List, string_bytes}
use Rattle.trace_order.specs.declared.sent.SentId.{SentId}

pub record Sent : Type 0 where
  pub id : List ℕ
  pub clock : List ℕ

abbrev pub seen_sent : SentId → Sent
seen_sent sent = record { id = string_bytes sent.id; clock = sent.clock.items }

abbrev pub sent_with : List ℕ → List ℕ → Sent
sent_with clock id = record { id = id; clock = clock }
