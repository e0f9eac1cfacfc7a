-- The events of a log, and which lines spell them.
use Rattle.std.specs.Prelude.{ℕ, ◌==◌, Bool, List, length, nat_lt, nat_le, Option, Some, option_and_then, Result, Ok}
use Rattle.std.specs.Prelude.{codes}
use Rattle.std.specs.List.{position_or_len, before_first, after_first}
use Rattle.std.specs.Option.{ok_or}
use Rattle.std.specs.Str.{is_utf8}
use Rattle.json.specs.Json.{Json, document}
use Rattle.json.specs.Find.{get, as_str, as_object}
use Rattle.trace_log.specs.declared.fault.LogFaultKind.{LogFaultKind}
use Rattle.trace_log.specs.declared.fault.LogFaultKind.TheVariants as kind
use Rattle.trace_log.specs.Judgement.{◌>>=◌, ask}
use Rattle.trace_log.specs.Clock.{Member, clock_of, number_of, has_distinct_names}

-- The byte between a host and its clock.
abbrev pub space : ℕ
space = 32

-- The most bytes of a line.
abbrev pub most_bytes : ℕ
most_bytes = 65536

-- An event: its host, its clock, and its text.
pub record Event : Type 0 where
  pub host : List ℕ
  pub clock : List Member
  pub text : List ℕ

-- The text that a line is: at most 65,536 bytes, in UTF-8.
abbrev pub text_in : List ℕ → Result (List ℕ) LogFaultKind
text_in line = do
  _ ← ask (nat_le (length line) most_bytes) kind.Long
  _ ← ask (is_utf8 line) kind.Text
  Ok line

-- The text of a member of an object.
abbrev pub text_at : List ℕ → Json → Option (List ℕ)
text_at name value = option_and_then as_str (get name value)

-- The clock that a value is, if there is one.
abbrev pub clock_in : Option Json → Result (List Member) LogFaultKind
clock_in value = do
  members ← ok_or (option_and_then as_object value) kind.Clock
  clock_of members

-- The host's own number is in the clock, and isn't 0.
abbrev pub own_in : List ℕ → List Member → Result (Unit {0}) LogFaultKind
own_in host clock = ask (nat_lt 0 (number_of host clock)) kind.Own

-- The event in one JSON object, in which no name stands twice: its members `host` and `event` are texts, and its member
-- `clock` is a clock with the host's own number.
unfoldable pub event_in_json : Bool → Json → Result Event LogFaultKind
event_in_json distinct value = do
  host ← ok_or (text_at (codes "host") value) kind.Text
  text ← ok_or (text_at (codes "event") value) kind.Text
  _ ← ask distinct kind.Clock
  clock ← clock_in (get (codes "clock") value)
  _ ← own_in host clock
  Ok (record { host = host; clock = clock; text = text })

-- The event that a line spells.
unfoldable pub event_in : List ℕ → Result Event LogFaultKind
event_in line = do
  text ← text_in line
  value ← ok_or (document text) kind.Text
  event_in_json (has_distinct_names value) value

-- What stands before the event's text: its host and its clock.
pub record Stamp : Type 0 where
  pub host : List ℕ
  pub clock : List Member

-- What stands before the first space of a text, and what stands after it.
unfoldable pub host_and_rest : List ℕ → Result (List ℕ × List ℕ) LogFaultKind
host_and_rest text = do
  _ ← ask (nat_lt (position_or_len (λ byte. byte == space) text) (length text)) kind.Text
  Ok (before_first (λ byte. byte == space) text, after_first (λ byte. byte == space) text)

-- The clock that a text is: one JSON object, in which no name stands twice.
unfoldable pub clock_in_text : List ℕ → Result (List Member) LogFaultKind
clock_in_text text = do
  value ← ok_or (document text) kind.Clock
  _ ← ask (has_distinct_names value) kind.Clock
  clock_in (Some value)

-- The host and the clock that a line spells, with a space between them.
unfoldable pub stamp_in : List ℕ → Result Stamp LogFaultKind
stamp_in line = do
  text ← text_in line
  parts ← host_and_rest text
  clock ← clock_in_text parts.1
  _ ← own_in parts.0 clock
  Ok (record { host = parts.0; clock = clock })
