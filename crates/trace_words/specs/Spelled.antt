-- The words that say how a log is spelled.
use Rattle.std.specs.Prelude.{◌≡◌, ℕ, Bool, false, List, Option, Some, None, codes, is_some, nat_le, option_map, unwrap_or}
use Rattle.std.specs.Prelude.{◌&&◌, ◌||◌, not, if◌then◌else◌}
use Rattle.std.specs.Borrow.{Bor}
use Rattle.std.specs.Option.{option_map_or}
use Rattle.std.specs.Str.{bytes_eq}
use Rattle.clap.specs.Words.{Row, Text, first_of}
use Rattle.trace_words.specs.declared.spelling.SpellingWords.{SpellingWords}
use Rattle.trace_words.specs.Options.{first_line_at, flag_at, last_line_at, line_said}

-- These words were found: those of each option, and whether each flag was given.
pub record AreSpelledIn (rows : List Row) (words : SpellingWords) : Type 0 where
  pub form : option_map (λ word. word.now) words.form ≡ first_of (codes "form") rows
  pub first : words.first ≡ unwrap_or (first_line_at rows) 1
  pub last : words.last ≡ unwrap_or (last_line_at rows) None
  pub is_strict : words.is_strict ≡ flag_at (codes "strict") rows
  pub assumes_sent : words.assumes_sent ≡ flag_at (codes "assume-sent") rows
  pub parser : option_map (λ word. word.now) words.parser ≡ first_of (codes "parser") rows
  pub event_lines : option_map (λ word. word.now) words.event_lines ≡ first_of (codes "event-lines") rows
  pub skips : words.skips ≡ flag_at (codes "skip-unmatched") rows
  pub host : option_map (λ word. word.now) words.host ≡ first_of (codes "host-field") rows
  pub clock : option_map (λ word. word.now) words.clock ≡ first_of (codes "clock-field") rows
  pub event : option_map (λ word. word.now) words.event ≡ first_of (codes "event-field") rows

-- The events have no clocks, but send and receive messages.
abbrev pub say_messages : SpellingWords → Bool
say_messages words = option_map_or (λ name. bytes_eq name.now (codes "messages")) words.form false

-- Members are named that give the parts of an event.
abbrev pub name_members : SpellingWords → Bool
name_members words = is_some words.host || (is_some words.clock || is_some words.event)

-- The most lines that an event may be said to have.
abbrev pub most_event_lines : ℕ
most_event_lines = 1000

abbrev pub few_lines : Option ℕ → Option ℕ
few_lines None = None
few_lines (Some lines) = if nat_le lines most_event_lines then Some lines else None

-- How many lines an event has, if a word says it.
abbrev pub event_lines_said : Option (Bor Text) → Option ℕ
event_lines_said None = None
event_lines_said (Some word) = few_lines (line_said word.now)

-- The words go together: what is said of waiting lines, of a log without clocks alone, and one way of it; events are
-- spelled by an expression or by members, and by an expression without a form; their lines are said beside an
-- expression alone, as a number; and lines are passed over where events are spelled so.
abbrev pub spell_one_way : SpellingWords → Bool
spell_one_way words = (not words.is_strict || say_messages words) && (not words.assumes_sent || say_messages words)
    && not (words.assumes_sent && words.is_strict)
    && not (is_some words.parser && name_members words) && not (is_some words.parser && is_some words.form)
    && (not (is_some words.event_lines)
    || (is_some words.parser && is_some (event_lines_said words.event_lines)))
    && (not words.skips || (is_some words.parser || name_members words))
