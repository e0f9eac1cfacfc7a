-- What a spelling was read as.
use Rattle.std.specs.Prelude.{◌≡◌, ℕ, Bool, List, Option}
use Rattle.std.specs.Prelude.{string_bytes}
use Rattle.regex.specs.Patterns.{default_config}
use Rattle.regex.specs.Strings.{regex_pattern, regex_config, IsReadFromSource}
use Rattle.regex.specs.declared.string.regex.Regex.{Regex}
use Rattle.trace_spelling.specs.declared.fields.FieldPath.{FieldPath}
use Rattle.trace_spelling.specs.declared.fields.Fields.{Fields}
use Rattle.trace_spelling.specs.declared.groups.Groups.{Groups}
use Rattle.trace_spelling.specs.declared.spelling.Place.{Place}
use Rattle.trace_spelling.specs.declared.spelling.Place.TheVariants as place
use Rattle.trace_spelling.specs.declared.spelling.Spelling.{Spelling}
use Rattle.trace_spelling.specs.Breaks.{lines_said}
use Rattle.trace_spelling.specs.GroupNames.{NamesGroups}
use Rattle.trace_spelling.specs.Said.{Rule}
use Rattle.trace_spelling.specs.Ways.{Way, by_parser, by_fields, seen_fields}

-- How a spelling finds an event.
abbrev pub way_of : Place → Way
way_of (place.Groups regex groups) = by_parser (regex_pattern regex) groups
way_of (place.Members fields) = by_fields (seen_fields fields)

-- The rule that a spelling is.
abbrev pub spelling_rule : Spelling → Rule
spelling_rule spelling = record { way = way_of spelling.place; lines = spelling.lines; skips = spelling.skips }

-- A spelling finds events by the groups `host`, `clock` and `event` of an expression that the grammar reads.
pub record HasParser (parser : List ℕ) (lines : Option ℕ) (skips : Bool) (spelling : Spelling) : Type 0 where
  pub regex : Regex
  pub groups : Groups
  pub found : way_of spelling.place ≡ by_parser (regex_pattern regex) groups
  pub read : IsReadFromSource regex
  pub config : regex_config regex ≡ default_config
  pub named : NamesGroups regex groups
  pub lined : spelling.lines ≡ lines_said lines parser
  pub skipping : spelling.skips ≡ skips

-- The path of a member with this name.
abbrev pub IsPath : List ℕ → FieldPath → Type 0
IsPath name path = string_bytes path.whole ≡ name

-- A spelling finds events by the members with these names.
pub record HasFields (host clock event : List ℕ) (skips : Bool) (spelling : Spelling) : Type 0 where
  pub fields : Fields
  pub found : way_of spelling.place ≡ by_fields (seen_fields fields)
  pub host_at : IsPath host fields.host
  pub clock_at : IsPath clock fields.clock
  pub event_at : IsPath event fields.event
  pub lined : spelling.lines ≡ 1
  pub skipping : spelling.skips ≡ skips
