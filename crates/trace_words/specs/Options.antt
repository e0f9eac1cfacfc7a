-- The options of the program, and what clap finds at them.
use Rattle.std.specs.Prelude.{ℕ, List, [], ◌∷◌, ◌++◌, map, Option, Some, None, codes, if◌then◌else◌, unwrap_or, Bool}
use Rattle.std.specs.Prelude.{true, false, ◌&&◌, ◌||◌, is_some, length, nat_le, nat_lt, option_map}
use Rattle.std.specs.Option.{option_map_or}
use Rattle.std.specs.Borrow.{Bor}
use Rattle.std.specs.Str.{bytes_eq, all_ascii_digits}
use Rattle.std.specs.Str.Parse.{digits_value}
use Rattle.clap.specs.Words.{App, Row, Rule, Text, all_of, first_of, new_app, new_rule, with_rule}
use Rattle.clap.specs.Simple.{on_top}
use Rattle.clap.specs.declared.builder.action.ArgAction.TheVariants.{Append, SetTrue}
use Rattle.trace_log.specs.declared.turn.Form.{Form}
use Rattle.trace_text.specs.declared.format.AnswerFormat.{AnswerFormat}
use Rattle.trace_text.specs.declared.format.AnswerFormat.TheVariants as format
use Rattle.trace_log.specs.declared.turn.LogLayout.{LogLayout}
use Rattle.trace_log.specs.declared.turn.LogLayout.TheVariants.{Lines, Shiviz, ShivizReversed, Numbered}

-- An option that takes one value at each use, and may be used again.
abbrev pub condition_option : Text → Rule
condition_option name = record (new_rule name) {
  long = Some name;
  value_names = 1;
  action = Some Append;
}

-- A flag.
abbrev pub flag_option : Text → Rule
flag_option name = record (new_rule name) {
  long = Some name;
  action = Some SetTrue;
}

-- An option that takes one value.
abbrev pub word_option : Text → Rule
word_option name = record (new_rule name) {
  long = Some name;
  value_names = 1;
}

-- The files that the log stands in, one behind the other: the words without an option.
abbrev pub file_argument : Rule
file_argument = record (new_rule (codes "file")) {
  value_names = 1;
  action = Some Append;
}

-- The options that ask questions.
abbrev pub question_rules : List Rule
question_rules = condition_option (codes "while") ∷ condition_option (codes "from") ∷ condition_option (codes "until")
    ∷ condition_option (codes "at") ∷ word_option (codes "any-two") ∷ word_option (codes "any-two-from")
    ∷ word_option (codes "any-two-until") ∷ word_option (codes "questions") ∷ word_option (codes "question")
    ∷ flag_option (codes "all") ∷ flag_option (codes "definitely") ∷ []

-- Those that say how the log is read.
abbrev pub log_rules : List Rule
log_rules = word_option (codes "form") ∷ flag_option (codes "strict") ∷ flag_option (codes "assume-sent")
    ∷ flag_option (codes "check") ∷ word_option (codes "from-line") ∷ word_option (codes "to-line") ∷ []

-- Those that say how its events are spelled.
abbrev pub spelling_rules : List Rule
spelling_rules = word_option (codes "parser") ∷ word_option (codes "event-lines") ∷ flag_option (codes "skip-unmatched")
    ∷ word_option (codes "host-field") ∷ word_option (codes "clock-field") ∷ word_option (codes "event-field") ∷ []

-- Those that say how answers are shown.
abbrev pub answer_rules : List Rule
answer_rules = flag_option (codes "explain") ∷ flag_option (codes "order") ∷ flag_option (codes "json")
    ∷ flag_option (codes "page") ∷ word_option (codes "events") ∷ flag_option (codes "svg")
    ∷ word_option (codes "columns") ∷ flag_option (codes "progress") ∷ []

-- The options of the program, and the files.
abbrev pub rules : List Rule
rules = question_rules ++ (log_rules ++ (spelling_rules ++ (answer_rules ++ file_argument ∷ [])))

-- A command line with these options more.
abbrev pub with_rules : List Rule → App → App
with_rules [] app = app
with_rules (rule ∷ more) app = with_rules more (with_rule app rule)

-- The program's name, and that it has a version.
abbrev pub named : App
named = on_top (λ s. record s { has_version = true }) (new_app (codes "wcptrace"))

-- The command line of the program: its options, and what clap adds for help and for the version.
abbrev pub program : App
program = on_top (λ s. record s { rules = rules }) named

abbrev pub seen_texts : List (Bor Text) → List Text
seen_texts texts = map (λ text. text.now) texts

-- The greatest number of a line.
abbrev pub most_line : ℕ
most_line = 18446744073709551615

-- The number of a line that a word is: digits alone, at least 1, and no more than the greatest.
unfoldable pub line_said : Text → Option ℕ
line_said word =
    if nat_lt 0 (length word) && all_ascii_digits word && nat_lt 0 (digits_value 10 word)
    && nat_le (digits_value 10 word) most_line
    then Some (digits_value 10 word) else None

-- The values that were found at an option, in the order given.
abbrev pub values_at : Text → List Row → List Text
values_at name rows = unwrap_or (all_of name rows) []

-- Whether a flag was given.
abbrev pub flag_at : Text → List Row → Bool
flag_at name rows = option_map_or (λ text. bytes_eq text (codes "true")) (first_of name rows) false

-- The form with this name.
abbrev pub layout_named : Text → Option LogLayout
layout_named name =
    if bytes_eq name (codes "lines") then Some Lines
    else if bytes_eq name (codes "shiviz") then Some Shiviz
    else if bytes_eq name (codes "shiviz-reversed") then Some ShivizReversed
    else if bytes_eq name (codes "messages") then Some Numbered
    else None

-- Whether the words say how events are spelled: by an expression, or by the names of members.
abbrev pub says_spelling : List Row → Bool
says_spelling rows = is_some (first_of (codes "parser") rows) || (is_some (first_of (codes "host-field") rows)
    || (is_some (first_of (codes "clock-field") rows) || is_some (first_of (codes "event-field") rows)))

-- The layout in which the log is read, by the name of its form, where one is given: that of ShiViz where nothing says
-- another. Events that are spelled otherwise, and those without clocks, are said anew in numbered lines.
abbrev pub layout_said : Option Text → Bool → Option LogLayout
layout_said None false = Some Shiviz
layout_said None true = Some Numbered
layout_said (Some name) false = layout_named name
layout_said (Some name) true = if bytes_eq name (codes "lines") then Some Numbered else None

abbrev pub layout_at : List Row → Option LogLayout
layout_at rows = layout_said (first_of (codes "form") rows) (says_spelling rows)

-- The first line that is read: 1 where no word says which.
abbrev pub first_line_at : List Row → Option ℕ
first_line_at rows = option_map_or line_said (first_of (codes "from-line") rows) (Some 1)

-- The last line that is read, if a word says which.
abbrev pub last_line_at : List Row → Option (Option ℕ)
last_line_at rows =
    option_map_or (λ word. option_map (λ line. Some line) (line_said word)) (first_of (codes "to-line") rows)
    (Some None)

-- The first line isn't behind the last.
abbrev pub are_in_order : ℕ → Option ℕ → Bool
are_in_order first None = true
are_in_order first (Some last) = nat_le first last

-- The form of a log with these lines. Of numbered lines all are read: the others were left out when they were said.
abbrev pub form_of : LogLayout → ℕ → Option ℕ → Bool → Form
form_of Numbered first last check = record { layout = Numbered; first = 1; last = None; check = check }
form_of layout first last check = record { layout = layout; first = first; last = last; check = check }

-- The same, if all of them are said.
abbrev pub form_with : Option LogLayout → Option ℕ → Option (Option ℕ) → Bool → Option Form
form_with None first last check = None
form_with (Some layout) None last check = None
form_with (Some layout) (Some first) None check = None
form_with (Some layout) (Some first) (Some last) check =
    if are_in_order first last then Some (form_of layout first last check) else None

-- The form of the log, and which of its lines are read, if the words say so.
abbrev pub form_at : List Row → Option Form
form_at rows = form_with (layout_at rows) (first_line_at rows) (last_line_at rows)
    (flag_at (codes "check") rows || flag_at (codes "definitely") rows)

-- How answers are printed: as JSON where that was asked for.
abbrev pub format_at : List Row → AnswerFormat
format_at rows = if flag_at (codes "json") rows then format.Json else format.Lines
