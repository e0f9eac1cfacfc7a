-- Lines that wait at the end of a log.
use Rattle.std.specs.Prelude.{ℕ, List, string_bytes}
use Rattle.trace_text.specs.declared.waiting.WaitingLines.{WaitingLines}

-- The first of them, the id for which it waits, and how many they are.
pub record ToldWaiting : Type 0 where
  pub line : ℕ
  pub id : List ℕ
  pub count : ℕ

abbrev pub seen_waiting : WaitingLines → ToldWaiting
seen_waiting waiting = record { line = waiting.line; id = string_bytes waiting.id; count = waiting.count }
