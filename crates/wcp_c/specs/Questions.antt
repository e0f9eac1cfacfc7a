use Rattle.std.specs.Prelude.{◌≡◌, ℕ, Bool, true, false, List, [], ◌∷◌}
use Rattle.std.specs.FinSet as set
use Rattle.std.specs.List.{list_any}
use Rattle.wcp_clock.specs.declared.note.Item.{Item}
use Rattle.wcp_queue.specs.Checker.{CheckerState}
use Rattle.wcp_queue.specs.Panel.{question_at, EachTakes}
use Rattle.wcp_c.specs.declared.questions.Questions.{Questions}
use Rattle.wcp_c.specs.declared.questions.Questions.TheVariants.{One, Many}

-- The questions of a handle: that of one checker, or those of a panel. Each has a checker; they are numbered from 0.
abbrev pub checkers_of : Questions → List CheckerState
checkers_of (One checker) = checker ∷ []
checkers_of (Many panel) = panel

-- Whether they are those of a panel.
abbrev pub is_panel : Questions → Bool
is_panel (One checker) = false
is_panel (Many panel) = true

-- The checker of a question.
abbrev pub checker_at : Questions → ℕ → CheckerState
checker_at questions question = question_at (checkers_of questions) question

-- That of the first one. All have counted alike what they took.
abbrev pub first_of : Questions → CheckerState
first_of questions = checker_at questions 0

-- Whether some question watches a process.
abbrev pub watches : Questions → ℕ → Bool
watches questions p = list_any (λ checker. set.contains checker.watched p) (checkers_of questions)

-- The questions took an item. Those of a panel are starved where there is no memory for it; one alone is not.
pub record TakesNote (old new : Questions) (item : Item) : Type 0 where
  pub each : EachTakes (checkers_of old) (checkers_of new) item
  pub fed : is_panel old ≡ false → (first_of new).starved ≡ (first_of old).starved
  pub panel : is_panel new ≡ is_panel old
