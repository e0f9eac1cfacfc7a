-- Events as a log spells them.
use Rattle.std.specs.Prelude.{ℕ, List, Option, Some, None, option_and_then}
use Rattle.json.specs.Json.{Json, string, object, Members, document}
use Rattle.json.specs.Find.{as_object}

-- An event: its host, what its clock is given as, its text, and how many lines stand before the one in which its text
-- begins.
pub record Spelled : Type 0 where
  pub host : List ℕ
  pub clock : Json
  pub text : List ℕ
  pub behind : ℕ

-- The object that was found, and else the text itself.
abbrev pub object_or_text : List ℕ → Option Members → Json
object_or_text text (Some members) = object members
object_or_text text None = string text

-- What a text gives as a clock: the JSON object that it is, and else the text itself.
abbrev pub clock_in_text : List ℕ → Json
clock_in_text text = object_or_text text (option_and_then as_object (document text))
