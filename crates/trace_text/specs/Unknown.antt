-- What is printed of what was detected: an answer, or that it isn't known, as lines wait at the end of the log.
use Rattle.std.specs.Prelude.{◌≡◌, ◌++◌, ℕ, List, Option, Result, Ok, Err, None, string_bytes}
use Rattle.trace_log.specs.declared.fault.LogFaultKind.TheVariants.{Waits}
use Rattle.trace_detect.specs.declared.answer.ReasonedAnswer.{ReasonedAnswer}
use Rattle.trace_detect.specs.declared.fault.DetectFault.{DetectFault}
use Rattle.trace_detect.specs.declared.fault.DetectFault.TheVariants.{Log}
use Rattle.trace_detect.specs.Told.{told_by}
use Rattle.trace_text.specs.declared.format.AnswerFormat.{AnswerFormat}
use Rattle.trace_text.specs.declared.format.AnswerFormat.TheVariants.{Json, Lines}
use Rattle.trace_text.specs.Json.{answer_tokens, json_line}
use Rattle.trace_text.specs.Lines.{name_text, reasoned_lines}
use Rattle.trace_text.specs.Printed.{told_status, unknown_bytes}
use Rattle.trace_text.specs.Waiting.{ToldWaiting}

-- The exit status where an answer isn't known.
abbrev pub unknown_status : ℕ
unknown_status = 2

-- The fault is that lines wait, and this is the line that it names. How many they are and for which id that one waits
-- stands in the words of the fault, of which no clause speaks.
abbrev pub SaysWaiting : DetectFault → ToldWaiting → Type 0
SaysWaiting (Log what) waiting = (what.kind ≡ Waits) × (waiting.line ≡ what.line)
SaysWaiting _ waiting = ⊥

-- The lines of an answer, and of why it stands where that was asked.
abbrev pub answer_lines : ReasonedAnswer → List ℕ
answer_lines told = reasoned_lines (told_by told.answer) (string_bytes told.why)

-- What is printed of an answer and of why it stands, with the name of its question where there is one.
abbrev pub reasoned_bytes : AnswerFormat → Option (List ℕ) → ReasonedAnswer → List ℕ
reasoned_bytes Lines name told = name_text name ++ answer_lines told
reasoned_bytes Json name told = json_line (answer_tokens name (told_by told.answer) (string_bytes told.why))

-- An answer is printed, with its status; or, where lines wait, that it isn't known, with a status of its own.
abbrev pub Tells : AnswerFormat → Result ReasonedAnswer DetectFault → List ℕ → ℕ → Type 0
Tells format (Ok told) printed status =
    (printed ≡ reasoned_bytes format None told) × (status ≡ told_status (told_by told.answer))
Tells format (Err why) printed status = (waiting : ToldWaiting) × SaysWaiting why waiting
    × (printed ≡ unknown_bytes format None waiting) × (status ≡ unknown_status)
