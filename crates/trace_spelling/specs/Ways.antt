-- How a spelling finds the event in a text.
use Rattle.std.specs.Prelude.{ℕ, List, map, Option, None, string_bytes, if◌then◌else◌}
use Rattle.std.specs.Str.{is_utf8}
use Rattle.regex.specs.Patterns.{Re}
use Rattle.regex.specs.Strings.{matcher_pattern}
use Rattle.trace_spelling.specs.declared.groups.Groups.{Groups}
use Rattle.trace_spelling.specs.declared.parser.Parts.{Parts}
use Rattle.trace_spelling.specs.declared.fields.FieldPath.{FieldPath}
use Rattle.trace_spelling.specs.declared.fields.Fields.{Fields}
use Rattle.trace_spelling.specs.declared.finder.Finder.{Finder}
use Rattle.trace_spelling.specs.declared.finder.Finder.TheVariants as finder
use Rattle.trace_spelling.specs.Events.{Spelled, clock_in_text}
use Rattle.trace_spelling.specs.Parsers.{spelled_by}
use Rattle.trace_spelling.specs.Fields as spec
use Rattle.trace_spelling.specs.Fields.{spelled_in}

-- By the groups of an expression's first match, or by the members of a JSON object.
pub data Way : Type 0 where
  by_parser : Re → Groups → Way
  by_fields : spec.Paths → Way

abbrev pub spelled_by_way : Way → List ℕ → Option Spelled
spelled_by_way (by_parser pattern groups) text = spelled_by pattern groups text
spelled_by_way (by_fields paths) text = spelled_in paths text

-- The event that a text spells.
unfoldable pub spelled : Way → List ℕ → Option Spelled
spelled way text = if is_utf8 text then spelled_by_way way text else None

-- The parts of an event.
abbrev pub seen_parts : Parts → Spelled
seen_parts parts = record {
  host = parts.host.now;
  clock = clock_in_text parts.clock.now;
  text = parts.text.now;
  behind = parts.behind;
}

-- The path of a member.
abbrev pub seen_path : FieldPath → spec.Path
seen_path path = record { whole = string_bytes path.whole; names = map string_bytes path.names.items }

abbrev pub seen_fields : Fields → spec.Paths
seen_fields fields = record {
  host = seen_path fields.host;
  clock = seen_path fields.clock;
  event = seen_path fields.event;
}

-- The way of a finder.
abbrev pub seen_way : Finder → Way
seen_way (finder.Parser events) = by_parser (matcher_pattern events.matcher) events.groups
seen_way (finder.Fields members) = by_fields (seen_fields members.fields.now)
