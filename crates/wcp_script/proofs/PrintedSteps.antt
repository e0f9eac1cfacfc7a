-- The line of a step is read as that step.
use Rattle.wcp_script.proofs.Words.{◌≡◌, ℕ, ◌<◌, true, false, List, [], ◌∷◌, ◌++◌, length, Ok, sym, ap, ◌∙◌}
use Rattle.wcp_script.proofs.Words.{append_assoc, arith, codes, AllByRecursion, decimal, Step, line_text, lines_of}
use Rattle.wcp_script.proofs.Words.{schedules}
use Rattle.wcp_model.specs.declared.step.Step.TheVariants as step
use Rattle.wcp_script.specs.ScheduleLines.{step_in}
use Rattle.wcp_script.specs.ScheduleText.{step_words, HasLineNumbers}
use Rattle.wcp_script.specs.TextFault.{steps_behind}
use Rattle.wcp_script.proofs.StepLines.{steps_behind_more}
use Rattle.wcp_script.proofs.LinesOfWords.{IsWord, IsWord-decimal, number_in-decimal, words_of-joined, worded}
use Rattle.wcp_script.proofs.LinesOfWords.{lines_of-line_text}

step_is_words : (does : Step) → HasLineNumbers does → AllByRecursion IsWord (step_words does)
step_is_words (step.Observe p true) small = grind (arith, IsWord-decimal)
step_is_words (step.Observe p false) small = grind (arith, IsWord-decimal)
step_is_words (step.Send p to) small = grind (arith, IsWord-decimal)
step_is_words (step.Recv p message) small = grind (arith, IsWord-decimal)
step_is_words (step.Close p) small = grind (arith, IsWord-decimal)
step_is_words (step.Dropped p) small = grind (arith, IsWord-decimal)
step_is_words (step.Put p) small = grind (arith, IsWord-decimal)
step_is_words (step.Admit relay p) small = grind (arith, IsWord-decimal)
step_is_words (step.Pull relay) small = grind (arith, IsWord-decimal)
step_is_words (step.Pass relay) small = grind (arith, IsWord-decimal)
step_is_words step.Check small = grind arith

step_in-worded : (does : Step) → HasLineNumbers does → step_in (worded (step_words does)) ≡ Ok does
unfolding step_in
step_in-worded (step.Observe p true) small = grind (
  arith,
  number_in-decimal,
  words_of-joined (codes "observe") (decimal p ∷ codes "true" ∷ []) (step_is_words (step.Observe p true) small),
)
step_in-worded (step.Observe p false) small = grind (
  arith,
  number_in-decimal,
  words_of-joined (codes "observe") (decimal p ∷ codes "false" ∷ []) (step_is_words (step.Observe p false) small),
)
step_in-worded (step.Send p to) small = grind (
  arith,
  number_in-decimal,
  words_of-joined (codes "send") (decimal p ∷ decimal to ∷ []) (step_is_words (step.Send p to) small),
)
step_in-worded (step.Recv p message) small = grind (
  arith,
  number_in-decimal,
  words_of-joined (codes "recv") (decimal p ∷ decimal message ∷ []) (step_is_words (step.Recv p message) small),
)
step_in-worded (step.Close p) small = grind (
  arith,
  number_in-decimal,
  words_of-joined (codes "close") (decimal p ∷ []) (step_is_words (step.Close p) small),
)
step_in-worded (step.Dropped p) small = grind (
  arith,
  number_in-decimal,
  words_of-joined (codes "drop") (decimal p ∷ []) (step_is_words (step.Dropped p) small),
)
step_in-worded (step.Put p) small = grind (
  arith,
  number_in-decimal,
  words_of-joined (codes "put") (decimal p ∷ []) (step_is_words (step.Put p) small),
)
step_in-worded (step.Admit relay p) small = grind (
  arith,
  number_in-decimal,
  words_of-joined (codes "admit") (decimal relay ∷ decimal p ∷ []) (step_is_words (step.Admit relay p) small),
)
step_in-worded (step.Pull relay) small = grind (
  arith,
  number_in-decimal,
  words_of-joined (codes "pull") (decimal relay ∷ []) (step_is_words (step.Pull relay) small),
)
step_in-worded (step.Pass relay) small = grind (
  arith,
  number_in-decimal,
  words_of-joined (codes "pass") (decimal relay ∷ []) (step_is_words (step.Pass relay) small),
)
step_in-worded step.Check small = grind (
  arith,
  words_of-joined (codes "check") [] (step_is_words step.Check small),
)

-- A step whose line begins a text stands behind the steps that were read before.
pub steps_behind_step : (n last : ℕ) (front : List Step) (does : Step) (text rest : List ℕ)
    → text ≡ line_text (step_words does) ++ rest → HasLineNumbers does → length front < 65536
    → steps_behind schedules n last (front ++ does ∷ []) (lines_of rest)
    ≡ steps_behind schedules n last front (lines_of text)
steps_behind_step n last front does text rest same small room =
    steps_behind_more schedules n last front (worded (step_words does)) does (lines_of text) (lines_of rest)
    (ap lines_of same ∙ lines_of-line_text (step_words does) rest (step_is_words does small))
    (sym (step_in-worded does small)) room

-- ---- the line of a step, from its parts

pub two_words_from : (first second text said rest : List ℕ)
    → text ≡ first ++ 32 ∷ said → said ≡ line_text (second ∷ []) ++ rest
    → text ≡ line_text (first ∷ second ∷ []) ++ rest
two_words_from first second text said rest begins says = grind (arith, append_assoc)
