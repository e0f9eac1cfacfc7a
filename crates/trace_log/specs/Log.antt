-- What a log says, line after line: the events, or the first fault.
use Rattle.std.specs.Prelude.{ℕ, ◌+◌, List, [], ◌∷◌, ◌++◌, nat_lt, nat_le, length, Option, Some}
use Rattle.std.specs.Prelude.{if◌then◌else◌, None, is_none}
use Rattle.std.specs.Prelude.{Result, Ok, Err}
use Rattle.trace_log.specs.declared.fault.LogFaultKind.{LogFaultKind}
use Rattle.trace_log.specs.declared.fault.LogFaultKind.TheVariants as kind
use Rattle.trace_log.specs.declared.fault.LogFault.{LogFault}
use Rattle.trace_log.specs.declared.turn.Form.{Form}
use Rattle.trace_log.specs.declared.turn.LogLayout.{LogLayout}
use Rattle.trace_log.specs.declared.turn.LogLayout.TheVariants.{Lines, Shiviz, ShivizReversed, Numbered}
use Rattle.trace_log.specs.Judgement.{◌>>=◌, ask, at_line, fault_in}
use Rattle.trace_log.specs.Event.{Event, Stamp, most_bytes, text_in, event_in, stamp_in}
use Rattle.trace_log.specs.Order.{may_follow}
use Rattle.trace_log.specs.Numbered.{number_said}
unfoldable use Rattle.trace_log.specs.Numbered.{numbered_in}
pub use Rattle.trace_log.specs.Numbered.{most_lines}

-- The event of a line in one JSON object, after the events so far.
abbrev pub event_after : List Event → List ℕ → Result Event LogFaultKind
event_after earlier line = do
  event ← event_in line
  _ ← may_follow earlier event.host event.clock
  Ok event

-- The host and the clock of a line, after the events so far.
abbrev pub stamp_after : List Event → List ℕ → Result Stamp LogFaultKind
stamp_after earlier line = do
  stamp ← stamp_in line
  _ ← may_follow earlier stamp.host stamp.clock
  Ok stamp

-- What the first of an event's two lines says: the host and the clock, or the text, with its line.
pub data Half : Type 0 where
  stamped : Stamp → Half
  texted : ℕ → List ℕ → Half

-- An event, with the line of its text.
pub record Logged : Type 0 where
  pub line : ℕ
  pub event : Event

-- What one line more says: the first half of an event, or an event.
pub record Turn : Type 0 where
  pub half : Option Half
  pub event : Option Logged

abbrev half_turn : Half → Turn
half_turn half = record { half = Some half; event = None }

abbrev event_turn : ℕ → Event → Turn
event_turn line event = record { half = None; event = Some (record { line = line; event = event }) }

-- The event of two lines.
abbrev pub whole : Stamp → List ℕ → Event
whole stamp text = record { host = stamp.host; clock = stamp.clock; text = text }

-- What the line of this number says after these events, where no half waits.
abbrev pub first_turn : LogLayout → List Event → ℕ → List ℕ → Result Turn LogFaultKind
first_turn Lines earlier at line = do
  event ← event_after earlier line
  Ok (event_turn at event)
first_turn Shiviz earlier at line = do
  stamp ← stamp_after earlier line
  Ok (half_turn (stamped stamp))
first_turn ShivizReversed earlier at line = do
  text ← text_in line
  Ok (half_turn (texted at text))
first_turn Numbered earlier at line = do
  one ← numbered_in line
  json ← one.says
  event ← event_after earlier json
  Ok (event_turn one.number event)

-- What it says where a half waits for it, or none.
abbrev pub turn_of : LogLayout → Option Half → List Event → ℕ → List ℕ → Result Turn LogFaultKind
turn_of layout None earlier at line = first_turn layout earlier at line
turn_of layout (Some (stamped stamp)) earlier at line = do
  text ← text_in line
  Ok (event_turn at (whole stamp text))
turn_of layout (Some (texted before text)) earlier at line = do
  stamp ← stamp_after earlier line
  Ok (event_turn before (whole stamp text))

-- A line before the first that is read says nothing, if it isn't too long.
abbrev pub passed : Option Half → List ℕ → Result Turn LogFaultKind
passed waits line = do
  _ ← ask (nat_le (length line) most_bytes) kind.Long
  Ok (record { half = waits; event = None })

-- What the line of this number says, if it is read.
abbrev pub said_at : Form → Option Half → List Event → ℕ → List ℕ → Result Turn LogFaultKind
said_at form waits earlier at line =
    if nat_lt at form.first then passed waits line else turn_of form.layout waits earlier at line

-- What the lines so far said: how many they are, the half that waits for the next line, and the events.
pub record SoFar : Type 0 where
  pub lines : ℕ
  pub half : Option Half
  pub events : List Event

-- Before the first line.
abbrev pub no_lines : SoFar
no_lines = record { lines = 0; half = None; events = [] }

abbrev pub with_event : List Event → Option Logged → List Event
with_event events None = events
with_event events (Some logged) = events ++ logged.event ∷ []

-- The lines so far and one more.
abbrev pub after : SoFar → Turn → SoFar
after so_far turn = record {
  lines = so_far.lines + 1;
  half = turn.half;
  events = with_event so_far.events turn.event;
}

-- The number of the line of which a line speaks: its own, by the lines so far, unless it names another.
abbrev pub place_of : LogLayout → ℕ → List ℕ → ℕ
place_of Lines at line = at
place_of Shiviz at line = at
place_of ShivizReversed at line = at
place_of Numbered at line = number_said at (numbered_in line)

-- What one line more says, or its fault: a log has at most the greatest number of lines.
abbrev pub next_turn : Form → SoFar → List ℕ → Result Turn LogFault
next_turn form so_far line =
    let at = so_far.lines + 1 in
    if nat_lt so_far.lines most_lines
    then at_line (place_of form.layout at line) (said_at form so_far.half so_far.events at line)
    else Err (fault_in so_far.lines kind.Many)

-- What the lines of a log say, from these on.
unfoldable pub log_from : Form → SoFar → List (List ℕ) → Result SoFar LogFault
log_from form so_far [] = Ok so_far
log_from form so_far (line ∷ lines) = do
  turn ← next_turn form so_far line
  log_from form (after so_far turn) lines

-- A log may end where no half waits: else the text or the clock is missing.
abbrev pub end_of : SoFar → Result (Unit {0}) LogFault
end_of so_far = if is_none so_far.half then Ok tt else Err (fault_in so_far.lines kind.Text)
