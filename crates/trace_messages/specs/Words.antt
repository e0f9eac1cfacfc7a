-- What a line of a log without clocks says: an event, what it receives and what it sends.
use Rattle.std.specs.Prelude.{ℕ, Bool, List, [], ◌∷◌, ◌++◌, length, nat_le, Option, Some, None}
use Rattle.std.specs.Prelude.{option_and_then, option_map, Result, Ok, Err, codes, if◌then◌else◌, nat_eq, not}
use Rattle.std.specs.List.{starts_with}
use Rattle.std.specs.Option.{ok_or}
use Rattle.std.specs.Str.{all_ascii_digits, is_utf8}
use Rattle.json.specs.Json.{Json, null, boolean, number, string, array, object, Items, no_items, item, document}
use Rattle.json.specs.Find.{get}
use Rattle.json.specs.Print.{print}
use Rattle.json.specs.Tree.{json_tokens}
use Rattle.trace_log.specs.declared.fault.LogFaultKind.{LogFaultKind}
use Rattle.trace_log.specs.declared.fault.LogFaultKind.TheVariants.{Long, Text}
use Rattle.trace_log.specs.Judgement.{◌>>=◌}
use Rattle.trace_log.specs.Clock.{has_distinct_names}
use Rattle.trace_log.specs.Event.{most_bytes, text_at}
use Rattle.trace_order.specs.Messages.{Words}

-- The fault of a line, and the words that tell it.
pub record LineFault : Type 0 where
  pub kind : LogFaultKind
  pub words : List ℕ

-- The fault of this kind, in these words.
abbrev pub fault_of : LogFaultKind → List ℕ → LineFault
fault_of what words = record { kind = what; words = words }

-- A question, and the fault where its answer is no.
abbrev pub ask : Bool → LineFault → Result (Unit {0}) LineFault
ask holds fault = if holds then Ok tt else Err fault

-- Whether a byte order mark stands at the beginning of a line.
abbrev pub has_mark : List ℕ → Bool
has_mark line = starts_with nat_eq line (239 ∷ 187 ∷ 191 ∷ [])

abbrev pub mark_words : List ℕ
mark_words = codes "a byte order mark stands at the beginning of the line; a log has none"

-- The text that a line is: at most 65,536 bytes, in UTF-8, without a byte order mark.
abbrev pub text_in : List ℕ → Result (List ℕ) LineFault
text_in line = do
  _ ← ask (nat_le (length line) most_bytes) (fault_of Long (codes "more than 65536 bytes"))
  _ ← ask (is_utf8 line) (fault_of Text (codes "not UTF-8"))
  _ ← ask (not (has_mark line)) (fault_of Text mark_words)
  Ok line

-- A number of digits alone is an id: the text of its digits.
abbrev pub digits_in : List ℕ → Option (List ℕ)
digits_in text = if all_ascii_digits text then Some text else None

-- The id that a value is: a text, or a whole number.
abbrev pub id_in : Json → Option (List ℕ)
id_in null = None
id_in (boolean b) = None
id_in (number text) = digits_in text
id_in (string text) = Some text
id_in (array values) = None
id_in (object _) = None

abbrev pub with_id : Option (List ℕ) → Option (List (List ℕ)) → Option (List (List ℕ))
with_id one others = option_and_then (λ id. option_map (λ ids. id ∷ ids) others) one

-- The ids that these values are.
abbrev pub ids_in : Items → Option (List (List ℕ))
ids_in no_items = Some []
ids_in (item value others) = with_id (id_in value) (ids_in others)

-- One id alone.
abbrev pub one_in : Option (List ℕ) → Option (List (List ℕ))
one_in found = option_map (λ id. id ∷ []) found

-- The ids that a value has: those of a list, or one, or none where it's null.
abbrev pub all_in : Json → Option (List (List ℕ))
all_in null = Some []
all_in (boolean b) = None
all_in (number text) = one_in (id_in (number text))
all_in (string text) = one_in (id_in (string text))
all_in (array values) = ids_in values
all_in (object _) = None

-- What is told of a text, which may be too long.
abbrev pub told : List ℕ → List ℕ
told text = if nat_le (length text) 1000 then text else codes "a long value"

-- What is said of a member with this value, which has no ids.
abbrev pub no_ids : List ℕ → Json → List ℕ
no_ids name value =
    codes "\"" ++ (name ++ (codes "\" is no id, and no list of ids: " ++ told (print (json_tokens value))))

-- The ids in the member with this name, and none where there's no such member.
abbrev pub ids_of : List ℕ → Option Json → Result (List (List ℕ)) LineFault
ids_of name None = Ok []
ids_of name (Some value) = ok_or (all_in value) (fault_of Text (no_ids name value))

-- The event in a JSON object: its members `host` and `event` are texts, and its members `recv` and `send` are ids or
-- lists of ids, where they stand there. The first of these that fails decides the fault.
unfoldable pub words_in_json : Json → Result Words LineFault
words_in_json value = do
  host ← ok_or (text_at (codes "host") value) (fault_of Text (codes "no text \"host\""))
  text ← ok_or (text_at (codes "event") value) (fault_of Text (codes "no text \"event\""))
  receives ← ids_of (codes "recv") (get (codes "recv") value)
  sends ← ids_of (codes "send") (get (codes "send") value)
  Ok (record { host = host; text = text; receives = receives; sends = sends })

-- The event that a line says: one JSON object, in which no name stands twice.
unfoldable pub words_in : List ℕ → Result Words LineFault
words_in line = do
  text ← text_in line
  value ← ok_or (document text) (fault_of Text (codes "no JSON object"))
  _ ← ask (has_distinct_names value) (fault_of Text (codes "a name stands twice"))
  words_in_json value
