-- The page of a workload.
use Rattle.std.specs.Prelude.{◌≡◌, ℕ, List, [], ◌∷◌, ◌++◌, Option, string_bytes}
use Rattle.wcp_model.specs.Cut.{Intervals}
use Rattle.draw_picture.specs.Picture.{found_text}
use Rattle.draw_page.specs.declared.model.Page.{Page}
use Rattle.draw_page.specs.Data.{document}

-- A page says what was found: the interval of each process at the cut, or that there is none. What events it shows no
-- clause says.
abbrev pub IsPageWords : Option Intervals → Page → Type 0
IsPageWords cut page = string_bytes page.words ≡ found_text cut ++ 10 ∷ []

-- Bytes are the file of a page that says what was found.
pub record IsPageOf (cut : Option Intervals) (bytes : List ℕ) : Type 0 where
  pub page : Page
  pub words : IsPageWords cut page
  pub is_document : bytes ≡ document page
