-- The lines that wait for the other lines of their event.
use Rattle.std.specs.Prelude.{ℕ, List, [], ◌∷◌, map, flat_map, slice_index_or, Option, Some, None}
use Rattle.wcp_io.specs.Lines.{line_feed}
use Rattle.trace_rewrite.specs.Lines.{event_line}
use Rattle.trace_spelling.specs.declared.waiting.WaitingLine.{WaitingLine}
use Rattle.trace_spelling.specs.Events.{Spelled}

-- A line, with its number.
abbrev pub Wait : Type 0
Wait = ℕ × List ℕ

-- The text of lines, each behind an LF.
abbrev pub joined : List Wait → List ℕ
joined waits = flat_map (λ (one : Wait). line_feed ∷ one.1) waits

-- The number of the line behind so many of these.
abbrev pub number_behind : List Wait → ℕ → ℕ
number_behind waits count = (slice_index_or waits count (0, [])).0

-- The line that says the event that was found in these lines.
abbrev pub event_said : List Wait → Option Spelled → List ℕ
event_said waits None = []
event_said waits (Some event) = event_line (number_behind waits event.behind) event.host event.clock event.text

abbrev pub seen_wait : WaitingLine → Wait
seen_wait one = (one.number, one.bytes.items)

abbrev pub seen_waits : List WaitingLine → List Wait
seen_waits waits = map seen_wait waits
