-- The clocks of a log: which JSON values are clocks, and what they say.
use Rattle.std.specs.Prelude.{ℕ, ◌&&◌, Bool, true, not, List, [], ◌∷◌, length, max, nat_lt, nat_le, Option, Some, None}
use Rattle.std.specs.Prelude.{Result, Ok, option_and_then, if◌then◌else◌}
use Rattle.std.specs.List.{list_any}
use Rattle.std.specs.Option.{ok_or}
use Rattle.std.specs.Str.{bytes_eq, all_ascii_digits}
use Rattle.std.specs.Str.Parse.{digits_value}
use Rattle.json.specs.Json.{Json, null, boolean, number, string, array, object, Items, no_items, item, Members}
use Rattle.json.specs.Json.{no_members, member}
use Rattle.json.specs.Find.{as_number}
use Rattle.json.specs.Strict.{keys}
use Rattle.trace_log.specs.declared.fault.LogFaultKind.{LogFaultKind}
use Rattle.trace_log.specs.declared.fault.LogFaultKind.TheVariants as kind
use Rattle.trace_log.specs.Judgement.{◌>>=◌}

-- The greatest number of a clock.
abbrev pub most_number : ℕ
most_number = 4294967294

-- A member of a clock: the name of a host, and its number.
pub record Member : Type 0 where
  pub name : List ℕ
  pub number : ℕ

-- The number that a text is: digits alone, and no more than the greatest number.
unfoldable pub number_spelled : List ℕ → Option ℕ
number_spelled text =
    if nat_lt 0 (length text) && all_ascii_digits text && nat_le (digits_value 10 text) most_number
    then Some (digits_value 10 text) else None

-- The number of a member whose value is a whole number.
abbrev pub number_in : Json → Option ℕ
number_in value = option_and_then number_spelled (as_number value)

-- The member of a clock that a member of an object is, if its value is a whole number.
abbrev pub member_in : List ℕ → Json → Result Member LogFaultKind
member_in name value = do
  n ← ok_or (number_in value) kind.Clock
  Ok (record { name = name; number = n })

-- The clock that the members of an object are, in their order.
unfoldable pub clock_of : Members → Result (List Member) LogFaultKind
clock_of no_members = Ok []
clock_of (member name value others) = do
  one ← member_in name value
  clock ← clock_of others
  Ok (one ∷ clock)

-- The number of a host in a clock, in which a name stands once: the greatest of those beside it, and 0 where there's
-- none.
unfoldable pub number_of : List ℕ → List Member → ℕ
number_of name [] = 0
number_of name (one ∷ others) =
    if bytes_eq one.name name then max one.number (number_of name others) else number_of name others

-- No name is among those after it.
abbrev pub are_distinct : List (List ℕ) → Bool
are_distinct [] = true
are_distinct (name ∷ names) = not (list_any (bytes_eq name) names) && are_distinct names

-- No object has a name twice, neither the value itself nor one inside it.
abbrev mutual
  pub has_distinct_names : Json → Bool
  has_distinct_names null = true
  has_distinct_names (boolean b) = true
  has_distinct_names (number text) = true
  has_distinct_names (string text) = true
  has_distinct_names (array values) = items_have_distinct_names values
  has_distinct_names (object members) = are_distinct (keys members) && members_have_distinct_names members

  pub items_have_distinct_names : Items → Bool
  items_have_distinct_names no_items = true
  items_have_distinct_names (item value others) = has_distinct_names value && items_have_distinct_names others

  pub members_have_distinct_names : Members → Bool
  members_have_distinct_names no_members = true
  members_have_distinct_names (member name value others) =
      has_distinct_names value && members_have_distinct_names others
