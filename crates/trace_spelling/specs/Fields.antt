-- The event that the members of a JSON line spell.
use Rattle.std.specs.Prelude.{ℕ, List, [], ◌∷◌, Option, Some, None, option_map, option_and_then}
use Rattle.json.specs.Json.{Json, document}
use Rattle.json.specs.Find.{get, as_str}
use Rattle.trace_spelling.specs.Events.{Spelled, clock_in_text}

-- Where a member stands: its name as it is, and the names on the way to it.
pub record Path : Type 0 where
  pub whole : List ℕ
  pub names : List (List ℕ)

-- The paths of the parts of an event.
pub record Paths : Type 0 where
  pub host : Path
  pub clock : Path
  pub event : Path

-- The value to which names lead.
abbrev pub value_along : List (List ℕ) → Json → Option Json
value_along [] value = Some value
value_along (name ∷ names) value = option_and_then (value_along names) (get name value)

abbrev pub or_else : Option Json → Option Json → Option Json
or_else (Some value) other = Some value
or_else None other = other

-- The value at a path: that of the member with the name as it is, and else the one to which its names lead.
abbrev pub value_at : Path → Json → Option Json
value_at path value = or_else (get path.whole value) (value_along path.names value)

abbrev pub text_at : Path → Json → Option (List ℕ)
text_at path value = option_and_then as_str (value_at path value)

-- What a value gives as a clock: a text may hold it.
abbrev pub clock_given : Option (List ℕ) → Json → Json
clock_given (Some text) value = clock_in_text text
clock_given None value = value

-- The event of a JSON line: its host and its text are texts.
abbrev pub spelled_along : Paths → Json → Option Spelled
spelled_along paths value =
    option_and_then (λ host.
    option_and_then (λ clock.
    option_map (λ text. record { host = host; clock = clock_given (as_str clock) clock; text = text; behind = 0 })
    (text_at paths.event value)) (value_at paths.clock value)) (text_at paths.host value)

abbrev pub spelled_in : Paths → List ℕ → Option Spelled
spelled_in paths text = option_and_then (spelled_along paths) (document text)
