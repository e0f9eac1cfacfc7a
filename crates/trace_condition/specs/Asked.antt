-- The conditions that the words of a command line say.
use Rattle.std.specs.Prelude.{ℕ, ◌==◌, ◌&&◌, Bool, true, not, List, [], ◌∷◌, ◌++◌, length, map, nat_lt, nat_le, Option}
use Rattle.std.specs.Prelude.{Some, None, find, option_map, if◌then◌else◌}
use Rattle.std.specs.List.{list_any, position_or_len, before_first, after_first}
use Rattle.std.specs.Str.{bytes_eq}
use Rattle.trace_condition.specs.declared.rule.Rule.{Rule}
use Rattle.trace_condition.specs.declared.rule.Rule.TheVariants.{While, FromUntil, At}

-- Bytes of a text.
abbrev pub Text : Type 0
Text = List ℕ

-- The next step is taken where the one before found something.
infixl 10 ◌>>=◌
abbrev pub ◌>>=◌ : {A B : Type 0} → Option A → (A → Option B) → Option B
(Some found) >>= next = next found
None >>= next = None

-- What is read of each item, if something is read of each.
abbrev pub all_read : {A B : Type 0} → (A → Option B) → List A → Option (List B)
all_read read [] = Some []
all_read read (item ∷ items) = do
  first ← read item
  others ← all_read read items
  Some (first ∷ others)

-- The byte between a host and an expression.
abbrev pub is_equals_sign : ℕ → Bool
is_equals_sign byte = byte == 61

-- A word HOST=EXPRESSION.
pub record Word : Type 0 where
  pub host : Text
  pub expression : Text

-- The word that a text is: it's cut at its first `=`, and the host before it isn't empty.
unfoldable pub word_in : Text → Option Word
word_in text =
    let at = position_or_len is_equals_sign text in
    if nat_lt 0 at && nat_lt at (length text)
    then Some (record { host = before_first is_equals_sign text; expression = after_first is_equals_sign text })
    else None

-- What is said of a host: when its condition holds, by the texts of expressions.
pub record Saying : Type 0 where
  pub host : Text
  pub rule : Rule Text

-- What an option's word says, by the rule of its expression.
abbrev pub saying_by : (Word → Option (Rule Text)) → Text → Option Saying
saying_by rule_of text = do
  word ← word_in text
  rule ← rule_of word
  Some (record { host = word.host; rule = rule })

-- The rule of an expression of `--while`.
abbrev pub while_rule : Word → Option (Rule Text)
while_rule word = Some (While word.expression)

-- The expression of the first until of a host.
abbrev pub until_of : Text → List Word → Option Text
until_of host untils = option_map (λ until. until.expression) (find (λ until. bytes_eq until.host host) untils)

-- The rule of an expression of `--from`, with the first until of the same host.
abbrev pub from_rule : List Word → Word → Option (Rule Text)
from_rule untils from = do
  until ← until_of from.host untils
  Some (FromUntil from.expression until)

-- The rule of an expression of `--at`.
abbrev pub at_rule : Word → Option (Rule Text)
at_rule word = Some (At word.expression)

-- No host is among those after it.
unfoldable pub are_distinct : List Text → Bool
are_distinct [] = true
are_distinct (host ∷ hosts) = not (list_any (bytes_eq host) hosts) && are_distinct hosts

-- There is a condition, and no host has two.
abbrev pub are_fit : List Saying → Bool
are_fit sayings = nat_le 1 (length sayings) && are_distinct (map (λ s. s.host) sayings)

-- The words of a command line, option by option.
pub record Asked : Type 0 where
  pub whiles : List Text
  pub froms : List Text
  pub untils : List Text
  pub ats : List Text

-- The conditions that the words say: those of `--while`, then those of `--from`, then those of `--at`. Each until has
-- its from, since there are as many, each from has its until, and no two froms have the same host.
unfoldable pub conditions_of : Asked → Option (List Saying)
conditions_of asked = do
  untils ← all_read word_in asked.untils
  whiles ← all_read (saying_by while_rule) asked.whiles
  spans ← all_read (saying_by (from_rule untils)) asked.froms
  ats ← all_read (saying_by at_rule) asked.ats
  let sayings = whiles ++ spans ++ ats in
      if length asked.untils == length asked.froms && are_fit sayings then Some sayings else None
