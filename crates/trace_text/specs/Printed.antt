-- What is printed of an answer.
use Rattle.std.specs.Prelude.{ℕ, List, [], ◌++◌, Option}
use Rattle.trace_detect.specs.Told.{Told, definite, found, none, possible}
use Rattle.trace_text.specs.declared.format.AnswerFormat.{AnswerFormat}
use Rattle.trace_text.specs.declared.format.AnswerFormat.TheVariants.{Lines, Json}
use Rattle.trace_text.specs.Lines.{lines_of, name_text, moments_line, unknown_lines}
use Rattle.trace_text.specs.Json.{answer_tokens, json_line, moments_tokens, unknown_object}
use Rattle.trace_text.specs.Waiting.{ToldWaiting}

-- An answer, with the name of its question where it has one.
abbrev pub bytes_of : AnswerFormat → Option (List ℕ) → Told → List ℕ
bytes_of Lines name told = name_text name ++ lines_of told
bytes_of Json name told = json_line (answer_tokens name told [])

-- What stands in the place of an answer that isn't known.
abbrev pub unknown_bytes : AnswerFormat → Option (List ℕ) → ToldWaiting → List ℕ
unknown_bytes Lines name waiting = name_text name ++ unknown_lines waiting
unknown_bytes Json name waiting = json_line (unknown_object name waiting)

-- How many moments there are.
abbrev pub counted : AnswerFormat → ℕ → List ℕ
counted Lines count = moments_line count
counted Json count = json_line (moments_tokens count)

-- The exit status of an answer: 0 says yes.
abbrev pub told_status : Told → ℕ
told_status (found members) = 0
told_status (none counts) = 1
told_status (definite runs) = 0
told_status (possible members) = 1
