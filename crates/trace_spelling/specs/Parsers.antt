-- The event that the first match of an expression spells, by three of its groups.
use Rattle.std.specs.Prelude.{ℕ, ◌==◌, List, take, count_by, slice_range, Option, option_map, option_and_then}
use Rattle.regex.specs.Patterns.{Re, Match, find_str}
use Rattle.regex.specs.Writes.{group_of}
use Rattle.wcp_io.specs.Lines.{line_feed}
use Rattle.trace_spelling.specs.declared.groups.Groups.{Groups}
use Rattle.trace_spelling.specs.Events.{Spelled, clock_in_text}

-- What a group matched, if it took part.
abbrev pub part_of : List ℕ → Match → ℕ → Option (List ℕ)
part_of text found group = option_map (λ span. slice_range text span.0 span.1) (group_of found group)

-- How many ends of lines stand before a place of a text.
abbrev pub feeds_before : List ℕ → ℕ → ℕ
feeds_before text place = count_by (λ byte. byte == line_feed) (take place text)

-- The event of a match in which all three groups took part.
abbrev pub spelled_at : Groups → List ℕ → Match → Option Spelled
spelled_at groups text found =
    option_and_then (λ host.
    option_and_then (λ clock.
    option_map (λ span. record {
      host = host;
      clock = clock_in_text clock;
      text = slice_range text span.0 span.1;
      behind = feeds_before text span.0;
    }) (group_of found groups.event)) (part_of text found groups.clock)) (part_of text found groups.host)

-- The event that a text spells.
abbrev pub spelled_by : Re → Groups → List ℕ → Option Spelled
spelled_by pattern groups text = option_and_then (spelled_at groups text) (find_str pattern text 0)
