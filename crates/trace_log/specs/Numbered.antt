-- The lines of a log that is said anew: each gives the number of the line that it speaks of.
use Rattle.std.specs.Prelude.{ℕ, ◌==◌, ◌&&◌, ◌-◌, ◌^◌, List, length, nat_lt, nat_le, Option, Some, None, Result, Ok, Err}
use Rattle.std.specs.Prelude.{codes, if◌then◌else◌}
use Rattle.std.specs.List.{position_or_len, before_first, after_first}
use Rattle.std.specs.Option.{ok_or}
use Rattle.std.specs.Str.{bytes_eq, all_ascii_digits}
use Rattle.std.specs.Str.Parse.{digits_value}
use Rattle.trace_log.specs.declared.fault.LogFaultKind.{LogFaultKind}
use Rattle.trace_log.specs.declared.fault.LogFaultKind.TheVariants as kind
use Rattle.trace_log.specs.Judgement.{◌>>=◌}
use Rattle.trace_log.specs.Event.{text_in}

-- The greatest number of lines.
abbrev pub most_lines : ℕ
most_lines = 2 ^ 64 - 1

-- The byte between a number and a kind of fault: `!`.
abbrev pub fault_mark : ℕ
fault_mark = 33

-- The number of a line that a text is: digits alone, and no more than the greatest number of lines.
unfoldable pub line_spelled : List ℕ → Option ℕ
line_spelled text =
    if nat_lt 0 (length text) && all_ascii_digits text && nat_le (digits_value 10 text) most_lines
    then Some (digits_value 10 text) else None

-- The name of a kind of fault.
abbrev pub name_of : LogFaultKind → List ℕ
name_of kind.Long = codes "long"
name_of kind.Text = codes "text"
name_of kind.Clock = codes "clock"
name_of kind.Own = codes "own"
name_of kind.Order = codes "order"
name_of kind.Falls = codes "falls"
name_of kind.Cycle = codes "cycle"
name_of kind.Many = codes "many"
name_of kind.Twice = codes "twice"
name_of kind.Waits = codes "waits"

-- The kind of fault with this name.
unfoldable pub kind_named : List ℕ → Option LogFaultKind
kind_named name =
    if bytes_eq name (codes "long") then Some kind.Long
    else if bytes_eq name (codes "text") then Some kind.Text
    else if bytes_eq name (codes "clock") then Some kind.Clock
    else if bytes_eq name (codes "own") then Some kind.Own
    else if bytes_eq name (codes "order") then Some kind.Order
    else if bytes_eq name (codes "falls") then Some kind.Falls
    else if bytes_eq name (codes "cycle") then Some kind.Cycle
    else if bytes_eq name (codes "many") then Some kind.Many
    else if bytes_eq name (codes "twice") then Some kind.Twice
    else if bytes_eq name (codes "waits") then Some kind.Waits
    else None

-- What stands before the first of these bytes in a text, and what stands after it.
unfoldable pub cut_at : ℕ → List ℕ → Option (List ℕ × List ℕ)
cut_at mark text =
    if nat_lt (position_or_len (λ byte. byte == mark) text) (length text)
    then Some (before_first (λ byte. byte == mark) text, after_first (λ byte. byte == mark) text) else None

-- A line of a log, by its number: the JSON text of its event, or the fault that it has.
pub record Numbered : Type 0 where
  pub number : ℕ
  pub says : Result (List ℕ) LogFaultKind

-- The line that is named before a mark, with the fault whose kind is named behind it.
abbrev pub faulty_line : List ℕ × List ℕ → Result Numbered LogFaultKind
faulty_line parts = do
  number ← ok_or (line_spelled parts.0) kind.Text
  what ← ok_or (kind_named parts.1) kind.Text
  Ok (record { number = number; says = Err what })

-- The line that is named, with this text of an event.
abbrev pub event_line : List ℕ → List ℕ → Result Numbered LogFaultKind
event_line named json = do
  number ← ok_or (line_spelled named) kind.Text
  Ok (record { number = number; says = Ok json })

-- What the text before the first space of a line names, where a mark stands in it or none.
abbrev pub named_line : Option (List ℕ × List ℕ) → List ℕ → List ℕ → Result Numbered LogFaultKind
named_line (Some parts) named json = faulty_line parts
named_line None named json = event_line named json

-- What a line says: `NUMBER JSON`, or `NUMBER!KIND WORDS`.
unfoldable pub numbered_in : List ℕ → Result Numbered LogFaultKind
numbered_in line = do
  text ← text_in line
  parts ← ok_or (cut_at 32 text) kind.Text
  named_line (cut_at fault_mark parts.0) parts.0 parts.1

-- The number of the line that is spoken of, and this one where none is.
abbrev pub number_said : ℕ → Result Numbered LogFaultKind → ℕ
number_said count (Ok one) = one.number
number_said count (Err what) = count
