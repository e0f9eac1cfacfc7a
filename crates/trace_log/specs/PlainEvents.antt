-- Events in one JSON object, as most printers spell them.
use Rattle.std.specs.Prelude.{◌≡◌, ◌<◌, ℕ, List, length, map, Bool, true, false, Option, Some, None}
use Rattle.std.specs.Prelude.{option_map, Result, Ok, if◌then◌else◌, codes}
use Rattle.std.specs.Fmt.{decimal}
use Rattle.std.specs.Option.{ok_or}
use Rattle.std.specs.Str.{bytes_eq}
use Rattle.json.specs.Find.{get, as_str}
use Rattle.json.specs.Json.{Json, number, object, document}
use Rattle.trace_log.specs.declared.fault.LogFaultKind.{LogFaultKind}
use Rattle.trace_log.specs.declared.fault.LogFaultKind.TheVariants as kind
use Rattle.trace_log.specs.Clock.{Member, are_distinct, has_distinct_names}
use Rattle.trace_log.specs.Event.{clock_in, text_at}
use Rattle.trace_log.specs.Fields.{Field, members_from, BeginsWith}
use Rattle.trace_log.specs.Judgement.{◌>>=◌, ask}
use Rattle.trace_log.specs.Look.{AreMembers, ArePlain}
use Rattle.trace_log.specs.Names.{names_in}

-- A text was found, and is this one.
abbrev pub is_said : List ℕ → Option (List ℕ) → Bool
is_said text None = false
is_said text (Some said) = bytes_eq said text

-- The clock of the JSON object that a line is, if no name stands twice in it and its host and its text are these.
unfoldable pub clock_beside : List ℕ → List ℕ → List ℕ → Result (List Member) LogFaultKind
clock_beside host text line = do
  value ← ok_or (document line) kind.Text
  _ ← ask (has_distinct_names value) kind.Clock
  _ ← ask (is_said host (text_at (codes "host") value)) kind.Text
  _ ← ask (is_said text (text_at (codes "event") value)) kind.Text
  clock_in (get (codes "clock") value)

-- A clock with these members stands there, spelled plainly.
pub record IsPlainClock (clock : List Member) (text : List ℕ) : Type 0 where
  pub some : 0 < length clock
  pub members : AreMembers 123 clock text
  pub plain : ArePlain clock
  pub distinct : are_distinct (names_in clock) ≡ true

-- A line is an event with this host and this text, whatever clock stands in this place of it.
abbrev pub SpellsEvent : List ℕ → List ℕ → List ℕ → List ℕ → Type 0
SpellsEvent line host place text =
    (clock : List Member) → IsPlainClock clock place → clock_beside host text line ≡ Ok clock

-- What was found of an event: its host, its text, and the place of its clock.
pub record Parts : Type 0 where
  pub host : Option (List ℕ)
  pub text : Option (List ℕ)
  pub place : Option (List ℕ)

-- Where all was found, the line is that event.
abbrev pub SpellsParts : List ℕ → Parts → Type 0
SpellsParts line parts = (host text place : List ℕ) → parts.host ≡ Some host → parts.text ≡ Some text
    → parts.place ≡ Some place → SpellsEvent line host place text

-- A clock stands in its place, if that was found.
abbrev pub IsClockThere : List Member → Option (List ℕ) → Type 0
IsClockThere clock None = Unit {0}
IsClockThere clock (Some place) = IsPlainClock clock place

-- The members of the object that a clock is.
abbrev pub clock_fields : List Member → List Field
clock_fields clock = map (λ (m : Member). record { name = m.name; value = number (decimal m.number) }) clock

abbrev pub clock_object : List Member → Json
clock_object clock = object (members_from (clock_fields clock))

-- The clock that stands in the place, if that was found.
abbrev pub clock_there : List Member → Option (List ℕ) → Option Json
clock_there clock place = option_map (λ _. clock_object clock) place

-- A text begins with the value of the member with this name, and what was found before and with it.
pub record FindsPart (name text rest : List ℕ) (old new : Parts) (clock : List Member) : Type 0 where
  pub value : Json
  pub begins : BeginsWith 1 value text rest
  pub host : new.host ≡ (if bytes_eq name (codes "host") then as_str value else old.host)
  pub text_is : new.text ≡ (if bytes_eq name (codes "event") then as_str value else old.text)
  pub place : clock_there clock new.place
      ≡ (if bytes_eq name (codes "clock") then Some value else clock_there clock old.place)
  pub there : IsClockThere clock old.place

-- The same whatever clock stands in its place.
abbrev pub FindsParts : List ℕ → List ℕ → List ℕ → Parts → Parts → Type 0
FindsParts name text rest old new =
    (clock : List Member) → IsClockThere clock new.place → FindsPart name text rest old new clock
