-- The step of a line with its LF.
use Rattle.wcp_script.proofs.Words.{◌≡◌, ℕ, true, List, Result, Step, FaultKind, TextLine, words_of}
use Rattle.wcp_script.specs.ScheduleLines.{step_by_words, step_in}

pub step_in_is : (line : TextLine) (words : List (List ℕ)) (step : Result Step FaultKind) → line.ended ≡ true
    → words_of line.bytes ≡ words → step ≡ step_by_words words → step ≡ step_in line
unfolding step_in
step_in_is line words step ended cut said = rw (ended, cut) said
