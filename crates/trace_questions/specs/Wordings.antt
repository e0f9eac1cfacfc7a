-- The questions that a TOML document says, as it words them.
use Rattle.std.specs.Prelude.{ℕ, ◌==◌, ◌&&◌, ◌||◌, Bool, not, List, [], ◌∷◌, length, map, nat_lt, nat_le, Option, Some}
use Rattle.std.specs.Prelude.{None, if◌then◌else◌, codes, option_map, true, false}
use Rattle.std.specs.List.{list_any, list_all}
use Rattle.std.specs.Str.{bytes_eq}
use Rattle.toml.specs.Data.{Data, string, array, Items, no_items, item, Members, no_members, member}
use Rattle.toml.specs.Data.{as_str, as_array, as_bool, as_table, get_member}
use Rattle.trace_condition.specs.declared.rule.Rule.{Rule}
use Rattle.trace_condition.specs.declared.rule.Rule.TheVariants.{While, FromUntil}
use Rattle.trace_condition.specs.Asked.{Asked, Text, ◌>>=◌, all_read, are_distinct}

-- The items of an array, as a list.
abbrev pub list_of : Items → List Data
list_of no_items = []
list_of (item value others) = value ∷ list_of others

-- The keys of a table.
abbrev pub keys_of : Members → List Text
keys_of no_members = []
keys_of (member key value others) = key ∷ keys_of others

-- A table has no keys but these.
abbrev pub has_only : List Text → Members → Bool
has_only keys table = list_all (λ key. list_any (bytes_eq key) keys) (keys_of table)

-- The keys of a document.
abbrev pub document_keys : List Text
document_keys = codes "question" ∷ []

-- The keys of a question about hosts, of one about any two by a state, and of one about any two by a span.
abbrev pub host_keys : List Text
host_keys = codes "name" ∷ codes "while" ∷ codes "from" ∷ codes "until" ∷ codes "at" ∷ codes "definitely" ∷ []

abbrev pub state_keys : List Text
state_keys = codes "name" ∷ codes "any-two" ∷ codes "definitely" ∷ []

abbrev pub span_keys : List Text
span_keys = codes "name" ∷ codes "any-two-from" ∷ codes "any-two-until" ∷ codes "definitely" ∷ []

-- The byte of a control character: it's below U+0020, or U+007F.
abbrev pub is_control : ℕ → Bool
is_control byte = nat_lt byte 32 || byte == 127

-- A name isn't empty, and has no control character.
abbrev pub is_name : Text → Bool
is_name name = nat_le 1 (length name) && not (list_any is_control name)

-- The name of a question.
abbrev pub name_in : Members → Option Text
name_in table = do
  value ← get_member (codes "name") table
  name ← as_str value
  if is_name name then Some name else None

-- The text at a key.
abbrev pub text_at : Text → Members → Option Text
text_at key table = get_member key table >>= as_str

-- The words that a key's value says: it's one text, or an array of texts.
abbrev pub words_of : Data → Option (List Text)
words_of (string text) = Some (text ∷ [])
words_of (array items) = all_read as_str (list_of items)
words_of value = None

-- A key that isn't there says no words.
abbrev pub words_or_none : Option Data → Option (List Text)
words_or_none None = Some []
words_or_none (Some value) = words_of value

abbrev pub words_at : Text → Members → Option (List Text)
words_at key table = words_or_none (get_member key table)

-- A key that isn't there says false.
abbrev pub flag_or_not : Option Data → Option Bool
flag_or_not None = Some false
flag_or_not (Some value) = as_bool value

-- The flag at a key: true or false.
abbrev pub flag_at : Text → Members → Option Bool
flag_at key table = flag_or_not (get_member key table)

-- The words of a question: conditions of hosts; the same, of which it's asked whether they must have held at once; or
-- the condition of any two of the hosts whose names match.
pub data AskedWords : Type 0 where
  of_hosts : Asked → AskedWords
  of_hosts_definitely : Asked → AskedWords
  of_any_two : Rule Text → AskedWords

-- A question as the document words it: its name, and its words.
pub record Wording : Type 0 where
  pub name : Text
  pub asks : AskedWords

-- The words of the four keys of a question about hosts.
abbrev pub host_words_in : Members → Option Asked
host_words_in table = do
  whiles ← words_at (codes "while") table
  froms ← words_at (codes "from") table
  untils ← words_at (codes "until") table
  ats ← words_at (codes "at") table
  Some (record { whiles = whiles; froms = froms; untils = untils; ats = ats })

-- The word of a state of any two hosts, and those of a span.
abbrev pub state_in : Members → Option (Rule Text)
state_in table = option_map While (text_at (codes "any-two") table)

abbrev pub span_in : Members → Option (Rule Text)
span_in table = do
  from ← text_at (codes "any-two-from") table
  until ← text_at (codes "any-two-until") table
  Some (FromUntil from until)

-- The words of a question about any two hosts, by its keys.
abbrev pub any_two_in : Members → Option (Rule Text)
any_two_in table =
    if has_only state_keys table then state_in table else (if has_only span_keys table then span_in table else None)

-- No word is of a point.
abbrev pub are_of_states : Asked → Bool
are_of_states words = length words.ats == 0

-- The words of a question about hosts. One that asks definitely has no word of a point.
abbrev pub words_of_hosts : Bool → Asked → Option AskedWords
words_of_hosts false words = Some (of_hosts words)
words_of_hosts true words = if are_of_states words then Some (of_hosts_definitely words) else None

abbrev pub asked_of_hosts : Bool → Members → Option AskedWords
asked_of_hosts definitely table = host_words_in table >>= words_of_hosts definitely

-- Those of a question about any two hosts, which doesn't ask definitely.
abbrev pub asked_of_two : Bool → Members → Option AskedWords
asked_of_two true table = None
asked_of_two false table = option_map of_any_two (any_two_in table)

-- The words of a question that is this table, by its keys. It asks definitely where `true` stands at that key.
abbrev pub asked_in : Members → Option AskedWords
asked_in table = do
  definitely ← flag_at (codes "definitely") table
  if has_only host_keys table then asked_of_hosts definitely table else asked_of_two definitely table

-- The wording of a question that is this table.
abbrev pub wording_in : Members → Option Wording
wording_in table = do
  name ← name_in table
  asks ← asked_in table
  Some (record { name = name; asks = asks })

-- The wording of a question that is this value.
abbrev pub wording_of : Data → Option Wording
wording_of value = as_table value >>= wording_in

-- There is a question, and no two have the same name.
abbrev pub are_fit : List Wording → Bool
are_fit wordings = nat_le 1 (length wordings) && are_distinct (map (λ wording. wording.name) wordings)

-- The wordings of an array of tables.
abbrev pub wordings_of : Items → Option (List Wording)
wordings_of items = do
  wordings ← all_read wording_of (list_of items)
  if are_fit wordings then Some wordings else None

-- The questions that a document says, as it words them. It has no key but `question`, which is an array of tables.
unfoldable pub questions_in : Members → Option (List Wording)
questions_in document =
    if has_only document_keys document
    then (do
      value ← get_member (codes "question") document
      items ← as_array value
      wordings_of items)
    else None
