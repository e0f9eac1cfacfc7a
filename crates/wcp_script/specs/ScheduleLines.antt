-- The step lines of a schedule.
use Rattle.std.specs.Prelude.{ℕ, Bool, true, false, List, [], ◌∷◌, Result, Ok, Err, codes, if◌then◌else◌}
use Rattle.std.specs.List.{list_any}
use Rattle.std.specs.Str.{bytes_eq}
use Rattle.wcp_model.specs.declared.step.Step.{Step}
use Rattle.wcp_model.specs.declared.step.Step.TheVariants as step
use Rattle.wcp_script.specs.declared.fault.FaultKind.{FaultKind}
use Rattle.wcp_script.specs.declared.fault.FaultKind.TheVariants as kind
use Rattle.wcp_script.specs.Lines.{TextLine, words_of}
use Rattle.wcp_script.specs.Judgement.{◌>>=◌, number_in}

-- The step lines of a schedule begin with one of ten words.
abbrev pub is_schedule_word : List ℕ → Bool
is_schedule_word word =
    list_any (bytes_eq word)
    (codes "observe" ∷ codes "send" ∷ codes "recv" ∷ codes "close" ∷ codes "drop"
    ∷ codes "put" ∷ codes "admit" ∷ codes "pull" ∷ codes "pass" ∷ codes "check" ∷ [])

-- What `observe P true` and `observe P false` say, by the words after the first.
abbrev pub observation : List ℕ → List ℕ → Result Step FaultKind
observation process keyword =
    if bytes_eq keyword (codes "true") then number_in process >>= (λ p. Ok (step.Observe p true))
    else (if bytes_eq keyword (codes "false") then number_in process >>= (λ p. Ok (step.Observe p false))
    else Err kind.Line)

-- What a line of two words says: `close P`, `drop P`, `put P`, `pull R`, `pass R`.
abbrev pub step_of_one : List ℕ → List ℕ → Result Step FaultKind
step_of_one first number =
    if bytes_eq first (codes "close") then number_in number >>= (λ p. Ok (step.Close p))
    else (if bytes_eq first (codes "drop") then number_in number >>= (λ p. Ok (step.Dropped p))
    else (if bytes_eq first (codes "put") then number_in number >>= (λ p. Ok (step.Put p))
    else (if bytes_eq first (codes "pull") then number_in number >>= (λ relay. Ok (step.Pull relay))
    else (if bytes_eq first (codes "pass") then number_in number >>= (λ relay. Ok (step.Pass relay))
    else Err kind.Line))))

-- What a line with two numbers says, by how it makes a step of them.
abbrev pub with_numbers : (ℕ → ℕ → Step) → List ℕ → List ℕ → Result Step FaultKind
with_numbers made one other = do
  a ← number_in one
  b ← number_in other
  Ok (made a b)

-- What a line of three words says: `observe P true`, `observe P false`, `send P Q`, `recv P M`, `admit R P`.
abbrev pub step_of_two : List ℕ → List ℕ → List ℕ → Result Step FaultKind
step_of_two first second third =
    if bytes_eq first (codes "observe") then observation second third
    else (if bytes_eq first (codes "send") then with_numbers step.Send second third
    else (if bytes_eq first (codes "recv") then with_numbers step.Recv second third
    else (if bytes_eq first (codes "admit") then with_numbers step.Admit second third else Err kind.Line)))

-- What the words of a step line say; `check` stands alone.
abbrev pub step_by_words : List (List ℕ) → Result Step FaultKind
step_by_words (first ∷ []) = if bytes_eq first (codes "check") then Ok step.Check else Err kind.Line
step_by_words (first ∷ second ∷ []) = step_of_one first second
step_by_words (first ∷ second ∷ third ∷ []) = step_of_two first second third
step_by_words words = Err kind.Line

-- The step of a step line that has its LF; which processes, relays and messages there are isn't asked.
unfoldable pub step_in : TextLine → Result Step FaultKind
step_in line = if line.ended then step_by_words (words_of line.bytes) else Err kind.Line
