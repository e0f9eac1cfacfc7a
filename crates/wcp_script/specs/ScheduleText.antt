-- The lines of the steps of a schedule.
use Rattle.std.specs.Prelude.{◌≡◌, ℕ, ◌<◌, Bool, true, false, List, [], ◌∷◌, ◌++◌, codes}
use Rattle.std.specs.Fmt.{decimal}
use Rattle.wcp_model.specs.declared.step.Step.{Step}
use Rattle.wcp_model.specs.declared.step.Step.TheVariants as step
use Rattle.wcp_script.specs.Lines.{Word, line_text}

-- The word for whether a condition holds.
abbrev pub truth_word : Bool → Word
truth_word true = codes "true"
truth_word false = codes "false"

-- The words of a step's line.
abbrev pub step_words : Step → List Word
step_words (step.Observe p holds) = codes "observe" ∷ decimal p ∷ truth_word holds ∷ []
step_words (step.Send p to) = codes "send" ∷ decimal p ∷ decimal to ∷ []
step_words (step.Recv p message) = codes "recv" ∷ decimal p ∷ decimal message ∷ []
step_words (step.Close p) = codes "close" ∷ decimal p ∷ []
step_words (step.Dropped p) = codes "drop" ∷ decimal p ∷ []
step_words (step.Put p) = codes "put" ∷ decimal p ∷ []
step_words (step.Admit relay p) = codes "admit" ∷ decimal relay ∷ decimal p ∷ []
step_words (step.Pull relay) = codes "pull" ∷ decimal relay ∷ []
step_words (step.Pass relay) = codes "pass" ∷ decimal relay ∷ []
step_words step.Check = codes "check" ∷ []

-- A step's numbers are those that a line may have.
abbrev pub HasLineNumbers : Step → Type 0
HasLineNumbers (step.Observe p holds) = p < 4294967296
HasLineNumbers (step.Send p to) = (p < 4294967296) × (to < 4294967296)
HasLineNumbers (step.Recv p message) = (p < 4294967296) × (message < 4294967296)
HasLineNumbers (step.Close p) = p < 4294967296
HasLineNumbers (step.Dropped p) = p < 4294967296
HasLineNumbers (step.Put p) = p < 4294967296
HasLineNumbers (step.Admit relay p) = (relay < 4294967296) × (p < 4294967296)
HasLineNumbers (step.Pull relay) = relay < 4294967296
HasLineNumbers (step.Pass relay) = relay < 4294967296
HasLineNumbers step.Check = Unit {0}

-- A text begins with the line of a step, which has the numbers that a line may have, and this is behind that line.
pub record BeginsWithStep (text : List ℕ) (does : Step) (rest : List ℕ) : Type 0 where
  pub line : text ≡ line_text (step_words does) ++ rest
  pub numbers : HasLineNumbers does
