-- Step lines, one after another.
use Rattle.wcp_script.proofs.Words.{◌≡◌, ℕ, ◌+◌, ◌<◌, List, [], ◌∷◌, ◌++◌, Result, Ok, Err, refl, sym, ap, append_assoc}
use Rattle.wcp_script.proofs.Words.{arith, length, length-append, lt-ltb, append-nil, FaultKind, ScriptFault, TextLine}
use Rattle.wcp_script.proofs.Words.{◌>>=◌, TextKind, step_after}
use Rattle.wcp_script.specs.TextFault.{steps_behind, steps_by}

abbrev pub with_front : {S : Type 0} → List S → Result (List S) ScriptFault → Result (List S) ScriptFault
with_front front spelled = spelled >>= λ steps. Ok (front ++ steps)

regroup : {S : Type 0} (front : List S) (step : S) (spelled : Result (List S) ScriptFault)
    → with_front front (spelled >>= λ steps. Ok (step ∷ steps)) ≡ with_front (front ++ step ∷ []) spelled
regroup {S = S} front step (Ok steps) = ap (λ (all : List S). Ok all) (sym (append_assoc front (step ∷ []) steps))
regroup front step (Err fault) = refl

pub steps_more : {S : Type 0} (text_kind : TextKind S) (n last earlier : ℕ) (front : List S) (line : TextLine)
    (step : S) (lines after : List TextLine) → lines ≡ line ∷ after → step_after text_kind n earlier line ≡ Ok step
    → with_front front (steps_by text_kind n last earlier lines) ≡ with_front (front ++ step ∷ [])
    (steps_by text_kind n last (earlier + 1) after)
unfolding steps_by
steps_more text_kind n last earlier front line step lines after cut read =
    rw (cut, read) (regroup front step (steps_by text_kind n last (earlier + 1) after))

pub steps_fail : {S : Type 0} (text_kind : TextKind S) (n last : ℕ) (front : List S) (line : TextLine)
    (what : FaultKind) (lines after : List TextLine) → lines ≡ line ∷ after
    → step_after text_kind n (length front) line ≡ Err what
    → steps_behind text_kind n last front lines ≡ Err (record { line = last + length front + 1; kind = what })
unfolding steps_behind steps_by
steps_fail text_kind n last front line what lines after cut read = rw (cut, read) refl

pub steps_end : {S : Type 0} (text_kind : TextKind S) (n last : ℕ) (front : List S) (lines : List TextLine) → lines ≡ []
    → steps_behind text_kind n last front lines ≡ Ok front
unfolding steps_behind steps_by
steps_end {S = S} text_kind n last front lines none = rw none (ap (λ (all : List S). Ok all) (append-nil front))

-- A line that is read as a step passed each question.
pub record IsStep {S : Type 0} (text_kind : TextKind S) (n earlier : ℕ) (line : TextLine) (step : S) : Type 0 where
  pub said : text_kind.said n line ≡ Ok step
  pub few : earlier < 65536

pub step_after_is : {S : Type 0} (text_kind : TextKind S) (n earlier : ℕ) (line : TextLine) (step : S)
    → step_after text_kind n earlier line ≡ Ok step → IsStep text_kind n earlier line step
step_after_is text_kind n earlier line step e = grind arith

pub step_after_said : {S : Type 0} (text_kind : TextKind S) (n earlier : ℕ) (line : TextLine) (step : S)
    → Ok step ≡ text_kind.said n line → earlier < 65536 → step_after text_kind n earlier line ≡ Ok step
step_after_said text_kind n earlier line step said few = grind (arith, lt-ltb)

-- A line that says a step is one behind the steps so far.
pub steps_behind_more : {S : Type 0} (text_kind : TextKind S) (n last : ℕ) (front : List S) (line : TextLine) (step : S)
    (lines after : List TextLine) → lines ≡ line ∷ after → Ok step ≡ text_kind.said n line → length front < 65536
    → steps_behind text_kind n last (front ++ step ∷ []) after ≡ steps_behind text_kind n last front lines
unfolding steps_behind
steps_behind_more text_kind n last front line step lines after cut said few =
    rw (length-append front (step ∷ []))
    (sym (steps_more text_kind n last (length front) front line step lines after cut
    (step_after_said text_kind n (length front) line step said few)))

-- Behind no steps stand the steps of the lines alone.
pub steps_behind_nothing : {S : Type 0} (text_kind : TextKind S) (n last : ℕ) (lines : List TextLine)
    → steps_behind text_kind n last [] lines ≡ steps_by text_kind n last 0 lines
unfolding steps_behind
steps_behind_nothing {S = S} text_kind n last lines = alone (steps_by text_kind n last 0 lines)
  where
    alone : (spelled : Result (List S) ScriptFault) → with_front [] spelled ≡ spelled
    alone (Ok steps) = refl
    alone (Err fault) = refl
