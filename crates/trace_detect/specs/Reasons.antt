-- Why an answer stands, where that is asked.
use Rattle.std.specs.Prelude.{◌≡◌, ◌++◌, ◌∷◌, [], ℕ, List, Bool, true, false, Option, Some, None, Result, Ok, Err}
use Rattle.trace_log.specs.Log.{Logged}
use Rattle.trace_moment.specs.Moment.{IsNextAt, Taken}
use Rattle.trace_condition.specs.declared.condition.Condition.{Condition}
use Rattle.trace_explain.specs.declared.history.History.{History}
use Rattle.trace_explain.specs.declared.reason.Explanation.{Explanation}
use Rattle.trace_explain.specs.Reasons.{Explains}
use Rattle.trace_explain.specs.Texts.{explanation_text}
use Rattle.trace_explain.specs.Views.{watched_by, Remembers}
use Rattle.trace_detect.specs.declared.answer.ReasonedAnswer.{ReasonedAnswer}
use Rattle.trace_detect.specs.declared.answer.TraceAnswer.{TraceAnswer}
use Rattle.trace_detect.specs.Watching.{taken_of, watches}

-- A history keeps what a search takes of the events of a log.
pub record HasRecorded (conditions : List Condition) (logged : List Logged) (history : History) : Type 0 where
  pub watched : watched_by history ≡ watches conditions
  pub remembers : Remembers (taken_of conditions logged) history

-- There is such a history where reasons are asked for, and else none.
abbrev pub KeepsSo : Bool → List Condition → List Logged → Option History → Type 0
KeepsSo true conditions logged (Some history) = HasRecorded conditions logged history
KeepsSo true conditions logged None = ⊥
KeepsSo false conditions logged (Some history) = ⊥
KeepsSo false conditions logged None = Unit {0}

-- A history took the next event of the watched host at this place.
pub record TookOne (place : ℕ) (one : Taken) (old new : History) : Type 0 where
  pub watched : watched_by new ≡ watched_by old
  pub remembers : (taken : List Taken) → Remembers taken old → IsNextAt (watched_by old) place taken one.logged
      → Remembers (taken ++ one ∷ []) new

abbrev pub TookSo : ℕ → Taken → Option History → Option History → Type 0
TookSo place one (Some old) (Some new) = TookOne place one old new
TookSo place one (Some old) None = ⊥
TookSo place one None (Some new) = ⊥
TookSo place one None None = Unit {0}

-- This text is an explanation of these events: what it says of them is so.
pub record IsWhy (conditions : List Condition) (logged : List Logged) (text : List ℕ) : Type 0 where
  pub explanation : Explanation
  pub explains : Explains (watches conditions) (taken_of conditions logged) explanation
  pub printed : text ≡ explanation_text (watches conditions) explanation

-- It is one where reasons are asked for, and else there is no text.
abbrev pub IsWhySo : Bool → List Condition → List Logged → List ℕ → Type 0
IsWhySo true conditions logged text = IsWhy conditions logged text
IsWhySo false conditions logged text = text ≡ []

-- The answer without its reasons.
abbrev pub answer_alone : {F : Type 0} → Result ReasonedAnswer F → Result TraceAnswer F
answer_alone (Ok reasoned) = Ok reasoned.answer
answer_alone (Err why) = Err why
