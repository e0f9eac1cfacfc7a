-- What a still picture tells.
use Rattle.std.specs.Prelude.{◌≡◌, ℕ, List, ◌++◌, codes}
use Rattle.draw_page.specs.declared.model.Page.{Page}
use Rattle.draw_page.specs.Model.{answer_name}

-- A text is a still picture of a page: it has a line that begins with what is answered. How the events are drawn no
-- clause says.
pub record IsStillOf (page : Page) (picture : List ℕ) : Type 0 where
  pub before : List ℕ
  pub behind : List ℕ
  pub told : picture ≡ before ++ (codes "<text class=\"found\" x=\"14\" y=\"22\">"
      ++ (answer_name page.answer ++ behind))
