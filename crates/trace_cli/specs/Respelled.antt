-- What a log is read as, by how it is spelled.
use Rattle.std.specs.Prelude.{◌≡◌, ◌⊎◌, ℕ, Bool, true, false, List, [], Option, Some, None, codes, option_map, if◌then◌else◌}
use Rattle.std.specs.Option.{option_map_or}
use Rattle.std.specs.Borrow.{Bor}
use Rattle.trace_log.specs.declared.turn.Form.{Form}
use Rattle.trace_log.specs.declared.turn.LogLayout.TheVariants.{Numbered}
use Rattle.trace_messages.specs.declared.unsent.Unsent.{Unsent}
use Rattle.trace_messages.specs.declared.unsent.Unsent.TheVariants.{Assumed, Refused, Told}
use Rattle.trace_spelling.specs.declared.spelling.Spelling.{Spelling}
use Rattle.trace_rewrite.specs.Remaining.{said_of_bytes, said_remaining}
use Rattle.trace_messages.specs.Said.{message_lines, message_says}
use Rattle.trace_spelling.specs.Said.{rewriter_says, said_lines}
use Rattle.trace_spelling.specs.Spellings.{HasFields, HasParser, spelling_rule}
use Rattle.trace_words.specs.declared.options.TraceRequest.{TraceRequest}
use Rattle.trace_words.specs.declared.options.TraceRequest.TheVariants as asks
use Rattle.trace_words.specs.declared.spelling.SpellingWords.{SpellingWords}
use Rattle.trace_words.specs.Spelled.{event_lines_said, name_members, say_messages}
use Rattle.trace_cli.specs.declared.respelled.LogReader.{LogReader}
use Rattle.trace_cli.specs.declared.respelled.LogReader.TheVariants.{Plain, Spelled, Messages}
use Rattle.trace_cli.specs.declared.spelling.LogSpelling.{LogSpelling}
use Rattle.trace_cli.specs.declared.spelling.LogSpelling.TheVariants as by

-- What becomes of lines that wait at the end of a log without clocks.
abbrev pub unsent_by : SpellingWords → Unsent
unsent_by words = if words.assumes_sent then Assumed else if words.is_strict then Refused else Told

-- The lines of the log that are read.
abbrev pub lines_by : SpellingWords → Form
lines_by words = record { layout = Numbered; first = words.first; last = words.last; check = false }

-- A name, or the usual one where none is said.
abbrev pub name_said : Option (Bor (List ℕ)) → List ℕ → List ℕ
name_said word usual = option_map_or (λ name. name.now) word usual

-- Events are spelled by an expression, if one is said, or by members with these names, if one is.
abbrev pub IsSpelledBy : SpellingWords → Option (Bor (List ℕ)) → Bool → Option LogSpelling → Type 0
IsSpelledBy words (Some parser) members said = (spelling : Spelling)
    × HasParser parser.now (event_lines_said words.event_lines) words.skips spelling
    × (said ≡ Some (by.Spelled spelling (lines_by words)))
IsSpelledBy words None true said = (spelling : Spelling)
    × HasFields (name_said words.host (codes "host")) (name_said words.clock (codes "clock"))
    (name_said words.event (codes "event")) words.skips spelling
    × (said ≡ Some (by.Spelled spelling (lines_by words)))
IsSpelledBy words None false said = said ≡ None

-- How a log is said anew by these words, if it is: as one without clocks, or as they spell its events.
abbrev pub IsSaidBy : SpellingWords → Bool → Option LogSpelling → Type 0
IsSaidBy words true said = said ≡ Some (by.Messages (unsent_by words) (lines_by words))
IsSaidBy words false said = IsSpelledBy words words.parser (name_members words) said

-- The log of a request is said anew so: by its words; or it is read as it stands, as where its words don't go together.
abbrev pub IsSaidFor : TraceRequest → Option LogSpelling → Type 0
IsSaidFor (asks.Trace options) said =
    (said ≡ None) ⊎ IsSaidBy options.spelled (say_messages options.spelled) said
IsSaidFor _ said = said ≡ None

-- The bytes that are read of a log with these bytes: as they stand, or the numbered lines that its spelling says of its
-- lines; of a log without clocks those that say its events with the clocks that their messages make.
abbrev pub read_as : Option LogSpelling → Option (List ℕ) → Option (List ℕ)
read_as None known = known
read_as (Some (by.Spelled spelling form)) known =
    option_map (said_of_bytes (said_lines (spelling_rule spelling) []) form 0) known
read_as (Some (by.Messages unsent form)) known =
    option_map (said_of_bytes (message_lines unsent) form 0) known

module _ {I : Type 0} (remaining : I → Option (List ℕ)) where
  -- What a reader of a log has left to give.
  abbrev pub log_left : LogReader I → Option (List ℕ)
  log_left (Plain input) = remaining input
  log_left (Spelled reader) = said_remaining remaining rewriter_says reader
  log_left (Messages reader) = said_remaining remaining message_says reader
