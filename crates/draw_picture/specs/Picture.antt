use Rattle.std.specs.Prelude.{◌≡◌, ℕ, List, ◌∷◌, ◌++◌, codes, Option, None, Some}
use Rattle.std.specs.Fmt.{decimal}
use Rattle.std.specs.List.{flat_map}
use Rattle.wcp_model.specs.declared.workload.Task.{Task}
use Rattle.wcp_model.specs.Cut.{Intervals}
use Rattle.draw_layout.specs.Layout.{IsLayout}
use Rattle.draw_layout.specs.declared.layout.Layout.{Layout}

-- A space, and the interval that a cut names of a process: `-` where it names none.
abbrev pub interval_text : Option ℕ → List ℕ
interval_text None = codes " -"
interval_text (Some interval) = 32 ∷ decimal interval

-- What was found: the interval of each process at the cut, or that there is none.
abbrev pub found_text : Option Intervals → List ℕ
found_text None = codes "none"
found_text (Some cut) = codes "found" ++ flat_map interval_text cut

-- A text is a picture of the layout of a fit order of n processes about a cut, or about none: it has a line that tells
-- what was found. How the layout is drawn no clause says.
pub record IsPicture (n : ℕ) (order : List Task) (cut : Option Intervals) (layout : Layout) (picture : List ℕ)
    : Type 0 where
  pub is_layout : IsLayout n order cut layout
  pub before : List ℕ
  pub behind : List ℕ
  pub told : picture ≡ before ++ (codes "<text class=\"found\" x=\"14\" y=\"22\">" ++ (found_text cut
      ++ (codes "</text>\n" ++ behind)))
