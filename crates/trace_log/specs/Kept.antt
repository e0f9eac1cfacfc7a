-- What is kept of the event that a line says.
use Rattle.std.specs.Prelude.{◌≡◌, ℕ, Bool, true, Option, Some, None, List, [], ◌∷◌, ◌++◌, Result, Ok, Err}
use Rattle.json.specs.Json.{Json}
use Rattle.std.specs.Borrow.{Bor}
use Rattle.std.specs.Option.{unwrap_or}
use Rattle.std.specs.Str.{bytes_eq}
use Rattle.std.specs.HashMap.{HashMap, get_by}
use Rattle.trace_log.specs.declared.fault.LogFaultKind.{LogFaultKind}
use Rattle.trace_log.specs.declared.fault.LineFault.{LineFault}
use Rattle.trace_log.specs.Judgement.{◌>>=◌, Fails}
use Rattle.trace_log.specs.Clock.{Member, has_distinct_names}
use Rattle.trace_log.specs.Event.{Event, Stamp, own_in, clock_in, clock_in_text, event_in_json}
use Rattle.trace_log.specs.Order.{may_follow}
use Rattle.trace_log.specs.Log.{whole}
use Rattle.trace_log.specs.Hosts.{Host, host_at, KeepsLast}

-- A host and its clock, after the events so far.
abbrev pub stamp_of : List Event → List ℕ → List Member → Result Stamp LogFaultKind
stamp_of earlier host clock = do
  _ ← own_in host clock
  _ ← may_follow earlier host clock
  Ok (record { host = host; clock = clock })

-- The same where a text spells the clock.
abbrev pub stamp_of_text : List Event → List ℕ → List ℕ → Result Stamp LogFaultKind
stamp_of_text earlier host text = do
  clock ← clock_in_text text
  stamp_of earlier host clock

-- The same where a value is the clock.
abbrev pub stamp_of_value : List Event → List ℕ → Option Json → Result Stamp LogFaultKind
stamp_of_value earlier host value = do
  clock ← clock_in value
  stamp_of earlier host clock

-- No object has a name twice in a value, if there is one.
abbrev pub have_distinct_names : Option Json → Bool
have_distinct_names None = true
have_distinct_names (Some value) = has_distinct_names value

-- The host with a number, and its clock.
abbrev pub stamp_at : List Host → ℕ → Stamp
stamp_at hosts number = record { host = (host_at hosts number).name; clock = (host_at hosts number).clock }

-- Of what was judged this is kept, under the number of its host: clocks are those of the events before and this one.
abbrev pub KeepsStamp : List Event → Result Stamp LogFaultKind → Result ℕ LineFault → List Host → Type 0
KeepsStamp earlier judged (Ok number) hosts =
    (judged ≡ Ok (stamp_at hosts number)) × KeepsLast hosts (earlier ++ whole (stamp_at hosts number) [] ∷ [])
KeepsStamp earlier judged (Err fault) hosts = Fails fault judged

-- The same of a whole event, whose text stands beside the hosts.
abbrev pub event_at : List Host → List ℕ → ℕ → Event
event_at hosts text number = whole (stamp_at hosts number) text

abbrev pub KeepsEvent : List Event → Result Event LogFaultKind → Result ℕ LineFault → List Host → List ℕ → Type 0
KeepsEvent earlier judged (Ok number) hosts text =
    (judged ≡ Ok (event_at hosts text number)) × KeepsLast hosts (earlier ++ whole (stamp_at hosts number) [] ∷ [])
KeepsEvent earlier judged (Err fault) hosts text = Fails fault judged

-- The number that is kept of a name, and 0 where none is.
abbrev pub number_kept : {S : Type 0} → HashMap (Bor (List ℕ)) ℕ S → List ℕ → ℕ
number_kept numbers name = unwrap_or (get_by (λ kept. bytes_eq name kept.now) numbers) 0

-- The event in one JSON object, after the events so far.
abbrev pub event_of_json : List Event → Bool → Json → Result Event LogFaultKind
event_of_json earlier distinct value = do
  event ← event_in_json distinct value
  _ ← may_follow earlier event.host event.clock
  Ok event
