-- The log that records make, and how it is read.
use Rattle.std.specs.Prelude.{◌↔◌, ◌≡◌, ◌≢◌, ℕ, ◌+◌, ◌<◌, ◌≤◌, ◌==◌, List, [], ◌∷◌, ◌++◌, length, map, flat_map, nat_lt}
use Rattle.std.specs.Prelude.{AllPairs, Contains, zero, suc, slice_index_or, None, Ok, if◌then◌else◌}
use Rattle.std.specs.List.{prefix_len}
use Rattle.wcp_io.specs.Lines.{line_feed, lines_of}
use Rattle.trace_log.specs.declared.turn.Form.{Form}
use Rattle.trace_log.specs.declared.turn.LogLayout.TheVariants as layout
use Rattle.trace_log.specs.Clock.{Member, number_of}
use Rattle.std.specs.Str.{IsUtf8}
use Rattle.trace_log.specs.Event.{Event, most_bytes}
use Rattle.trace_log.specs.Log.{Logged, no_lines}
use Rattle.trace_log.specs.LoggedEvents.{logged_from, whole_log}
use Rattle.trace_log.specs.Fields.{Field}
use Rattle.trace_log.specs.PlainEvents.{clock_object}
use Rattle.json.specs.Json.{number}
use Rattle.std.specs.Fmt.{decimal}
use Rattle.trace_rewrite.specs.Lines.{event_json}
use Rattle.wullaphi_record.specs.declared.fault.RecordFault.{RecordFault}
use Rattle.wullaphi_record.specs.declared.fault.RecordFault.TheVariants as fault
use Rattle.wullaphi_record.specs.Recorded.{AreInOrder, Recording, recorded_at, counted}

-- How many of the kept events come before the process had counted so many of its own sends and receives.
abbrev pub known_events : Recording → ℕ → ℕ
known_events recording count = prefix_len (λ one. nat_lt (counted recording.process one) count) recording.events

-- The number of the last of these, or 0 where there is none.
abbrev pub number_known : Recording → ℕ → ℕ
number_known recording count =
    let known = known_events recording count in
    if known == 0 then 0 else recording.passed + known

-- The number in the clock of the i-th kept event of one record that stands for another one: the own one is its place
-- among all events of its process, from 1.
abbrev pub number_in : Recording → ℕ → Recording → ℕ
number_in own i other =
    if other.process == own.process then own.passed + i + 1
    else number_known other (counted other.process (recorded_at own.events i))

abbrev pub member_of : Recording → ℕ → Recording → Member
member_of own i other = record { name = other.name; number = number_in own i other }

-- That event in the log.
abbrev pub logged_at : List Recording → Recording → ℕ → Event
logged_at all own i = record {
  host = own.name;
  clock = map (member_of own i) all;
  text = (recorded_at own.events i).text;
}

-- The first kept events of a record, so many.
abbrev pub logged_up_to : List Recording → Recording → ℕ → List Event
logged_up_to all own zero = []
logged_up_to all own (suc i) = logged_up_to all own i ++ logged_at all own i ∷ []

-- All kept events of a record, and of all records, one after another.
abbrev pub logged_of : List Recording → Recording → List Event
logged_of all own = logged_up_to all own (length own.events)

abbrev pub events_of : List Recording → List Event
events_of all = flat_map (logged_of all) all

-- The members of the object that a clock is: the name of each record, with its number.
abbrev pub fields_of : List Recording → List ℕ → List Field
fields_of [] numbers = []
fields_of (one ∷ all) [] = []
fields_of (one ∷ all) (n ∷ numbers) = record { name = one.name; value = number (decimal n) } ∷ fields_of all numbers

-- An event as a JSON text, and as a line.
abbrev pub json_of : Event → List ℕ
json_of event = event_json event.host (clock_object event.clock) event.text

abbrev pub line_of : Event → List ℕ
line_of event = json_of event ++ line_feed ∷ []

-- The log of some records.
abbrev pub log_of : List Recording → List ℕ
log_of all = flat_map line_of (events_of all)

-- The lines of a record are short enough to be read, and text.
pub record Legible (all : List Recording) (own : Recording) : Type 0 where
  pub short : (i : ℕ) → i < length own.events → length (json_of (logged_at all own i)) ≤ most_bytes
  pub utf8 : (i : ℕ) → i < length own.events → IsUtf8 (json_of (logged_at all own i))

-- No two records are of one process or have one name.
abbrev pub DifferFrom : Recording → Recording → Type 0
DifferFrom one other = (one.process ≢ other.process) × (one.name ≢ other.name)

abbrev pub IsNew : List Recording → ℕ → Type 0
IsNew all second = (first : ℕ) (one : Recording) → first < second
    → DifferFrom (slice_index_or all first one) (slice_index_or all second one)

abbrev pub AreDistinct : List Recording → Type 0
AreDistinct all = AllPairs DifferFrom all

-- The line of an event would be too long, or that of one of a record's.
abbrev pub IsLongAt : List Recording → Recording → ℕ → Type 0
IsLongAt all own i = most_bytes < length (json_of (logged_at all own i))

abbrev pub HasLong : List Recording → Recording → Type 0
HasLong all own = (i : ℕ) × (i < length own.events) × IsLongAt all own i

-- Why there is no line of an event, no lines of a record, or no log.
abbrev pub IsWhyNoLine : List Recording → Recording → ℕ → RecordFault → Type 0
IsWhyNoLine all own i fault.Long = IsLongAt all own i
IsWhyNoLine all own i fault.Memory = Unit {0}
IsWhyNoLine all own i fault.Twice = ⊥
IsWhyNoLine all own i fault.OtherProbe = ⊥
IsWhyNoLine all own i fault.Full = ⊥

abbrev pub IsWhyNoLines : List Recording → Recording → RecordFault → Type 0
IsWhyNoLines all own fault.Long = HasLong all own
IsWhyNoLines all own fault.Memory = Unit {0}
IsWhyNoLines all own fault.Twice = ⊥
IsWhyNoLines all own fault.OtherProbe = ⊥
IsWhyNoLines all own fault.Full = ⊥

abbrev pub IsWhyNoLog : List Recording → RecordFault → Type 0
IsWhyNoLog all fault.Long = AreDistinct all × ((one : Recording) × Contains all one × HasLong all one)
IsWhyNoLog all fault.Memory = AreDistinct all
IsWhyNoLog all fault.Twice = (AreDistinct all → ⊥)
IsWhyNoLog all fault.OtherProbe = ⊥
IsWhyNoLog all fault.Full = ⊥

-- An event of one record knows an event of another one: by its clock the process of the other had sent or received
-- since.
abbrev pub Knows : Recording → ℕ → Recording → ℕ → Type 0
Knows one i other j =
    counted other.process (recorded_at other.events j) < counted other.process (recorded_at one.events i)

-- No two events of two processes know each other, as in each run.
abbrev pub AreOfOneRun : List Recording → Type 0
AreOfOneRun all = (one other : Recording) (i j : ℕ) → Contains all one → Contains all other
    → one.process ≢ other.process → i < length one.events → j < length other.events
    → Knows one i other j → Knows other j one i → ⊥

-- Events with the numbers of their lines, a line each.
abbrev pub numbered : ℕ → List Event → List Logged
numbered at [] = []
numbered at (event ∷ events) = record { line = at; event = event } ∷ numbered (at + 1) events

-- A log in the form `lines`, of which all lines are read, says just these events.
pub record IsReadAs (form : Form) (bytes : List ℕ) (events : List Event) : Type 0 where
  pub whole : whole_log form (lines_of bytes) ≡ Ok (record { lines = length events; half = None; events = events })
  pub logged : logged_from form no_lines (lines_of bytes) ≡ numbered 1 events

abbrev pub IsReadWhole : List ℕ → List Event → Type 0
IsReadWhole bytes events = (form : Form) → form.layout ≡ layout.Lines → form.first ≤ 1 → form.last ≡ None
    → IsReadAs form bytes events

-- By the clocks of the log an event of one record happened before an event of another one exactly where the other one
-- knows it.
abbrev pub RecordedClocksLaw : Type 0
RecordedClocksLaw = (all : List Recording) (one other : Recording) (i j : ℕ) → AreDistinct all → Contains all one
    → Contains all other → one.process ≢ other.process → AreInOrder one.events → i < length one.events
    → (number_of one.name (logged_at all one i).clock ≤ number_of one.name (logged_at all other j).clock)
    ↔ Knows other j one i
