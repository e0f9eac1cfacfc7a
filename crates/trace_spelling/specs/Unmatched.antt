-- What is said of a text that spells no event.
use Rattle.std.specs.Prelude.{ℕ, Bool, List, ◌++◌, Option, Some, None, is_some, codes, if◌then◌else◌}
use Rattle.std.specs.Str.{is_utf8}
use Rattle.json.specs.Json.{Json, document}
use Rattle.regex.specs.Patterns.{Match, find_str}
use Rattle.regex.specs.Writes.{group_of}
use Rattle.trace_spelling.specs.declared.groups.Groups.{Groups}
use Rattle.trace_spelling.specs.Fields.{Path, Paths, text_at, value_at}
use Rattle.trace_spelling.specs.Ways.{Way}
use Rattle.trace_spelling.specs.Ways.Way.{by_parser, by_fields}

-- The words of the first that is missing: the host, the clock or else the text.
abbrev pub missing : Bool → Bool → List ℕ → List ℕ → List ℕ → List ℕ
missing has_host has_clock host clock text = if has_host then (if has_clock then text else clock) else host

-- The expression has no match, or one in which a group took no part.
abbrev pub missing_group : Groups → Option Match → List ℕ
missing_group groups None = codes "the expression has no match here"
missing_group groups (Some found) =
    missing (is_some (group_of found groups.host)) (is_some (group_of found groups.clock))
    (codes "the group (?<host>) takes no part in the match here")
    (codes "the group (?<clock>) takes no part in the match here")
    (codes "the group (?<event>) takes no part in the match here")

abbrev pub no_text : Path → List ℕ
no_text path = codes "no text \"" ++ (path.whole ++ codes "\"")

abbrev pub no_member : Path → List ℕ
no_member path = codes "no member \"" ++ (path.whole ++ codes "\"")

-- The text is no JSON, or has no such member.
abbrev pub missing_member : Paths → Option Json → List ℕ
missing_member paths None = codes "no JSON object"
missing_member paths (Some value) =
    missing (is_some (text_at paths.host value)) (is_some (value_at paths.clock value))
    (no_text paths.host) (no_member paths.clock) (no_text paths.event)

abbrev pub unmatched_by : Way → List ℕ → List ℕ
unmatched_by (by_parser pattern groups) text = missing_group groups (find_str pattern text 0)
unmatched_by (by_fields paths) text = missing_member paths (document text)

unfoldable pub unmatched : Way → List ℕ → List ℕ
unmatched way text = if is_utf8 text then unmatched_by way text else codes "not UTF-8"
