use Rattle.std.specs.Prelude.{◌≡◌, ◌≤◌, ℕ, Bool, true, false, List, length, All}
use Rattle.wcp_queue.specs.Checker.{CheckerState, IsSoundChecker}
use Rattle.wcp_queue.specs.Panel.{IsSoundPanel}
use Rattle.wcp_saved.specs.Watches.{WatchState, IsWatchInRange, watch_spelling}
use Rattle.wcp_c.specs.Masks.{most_questions}
use Rattle.wcp_c.specs.Questions.{checkers_of, is_panel}
use Rattle.wcp_c.specs.declared.watching.Watching.{Watching}

-- All that a handle holds.
abbrev pub state_held : Watching → WatchState
state_held held = record {
  watch = held.watch;
  panel = is_panel held.questions;
  questions = checkers_of held.questions;
  tags = held.shelf;
}

-- These can be the checkers of a handle: of a panel those that have taken alike, and not too many; else one.
abbrev pub CanBeAsked : Bool → List CheckerState → Type 0
CanBeAsked true checkers = IsSoundPanel checkers × (length checkers ≤ most_questions)
CanBeAsked false checkers = length checkers ≡ 1

-- These bytes are the saved ones of what a handle can hold: its one spelling.
pub record IsSaved (held : Watching) (bytes : List ℕ) : Type 0 where
  pub spelled : bytes ≡ watch_spelling (state_held held)
  pub sound : All IsSoundChecker (checkers_of held.questions)
  pub asked : CanBeAsked (is_panel held.questions) (checkers_of held.questions)
  pub range : IsWatchInRange (state_held held)
