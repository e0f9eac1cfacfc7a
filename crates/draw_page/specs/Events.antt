-- The JSON tokens of an event.
use Rattle.std.specs.Prelude.{ℕ, Bool, true, List, [], ◌∷◌, ◌++◌, codes, string_bytes, if◌then◌else◌}
use Rattle.std.specs.Fmt.{decimal}
use Rattle.std.specs.List.{flat_map}
use Rattle.json.specs.Token.{Token, begin_object, end_object, begin_array, end_array, key, string, number, boolean}
use Rattle.draw_page.specs.declared.event.PageEvent.{PageEvent}
use Rattle.draw_page.specs.declared.event.ClockEntry.{ClockEntry}

-- A member that is a number, a text, or a flag that stands only where it is set.
unfoldable pub count_tokens : List ℕ → ℕ → List Token
count_tokens name count = key name ∷ number (decimal count) ∷ []

unfoldable pub text_tokens : List ℕ → List ℕ → List Token
text_tokens name text = key name ∷ string text ∷ []

abbrev pub flag_tokens : List ℕ → Bool → List Token
flag_tokens name is_set = if is_set then key name ∷ boolean true ∷ [] else []

-- A host's number in a clock: the host's place and the number.
abbrev pub entry_tokens : ClockEntry → List Token
entry_tokens entry =
    begin_array ∷ number (decimal entry.host) ∷ number (decimal entry.number) ∷ end_array ∷ []

abbrev pub clock_tokens : List ClockEntry → List Token
clock_tokens clock = key (codes "clock") ∷ begin_array ∷ (flat_map entry_tokens clock ++ end_array ∷ [])

-- An event: its host, its line and its text, its clock, and its flags.
abbrev pub event_place : PageEvent → List Token
event_place event = count_tokens (codes "host") event.host
    ++ (count_tokens (codes "line") event.line ++ text_tokens (codes "text") (string_bytes event.text))

abbrev pub event_flags : PageEvent → List Token
event_flags event = flag_tokens (codes "holds") event.holds ++ flag_tokens (codes "far") event.far

abbrev pub event_tokens : PageEvent → List Token
event_tokens event = begin_object
    ∷ (event_place event ++ (clock_tokens event.clock.items ++ (event_flags event ++ end_object ∷ [])))
