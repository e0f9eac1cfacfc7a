use Rattle.std.proofs.Common.{◌≡◌, ◌<◌, ℕ, false, map}
use Rattle.std.specs.Prelude.{slice_index_or}
use Rattle.trace_pages.specs.Pages.{Said, said_by}
use Rattle.trace_pages.specs.Several.{has_moment}
use Rattle.trace_pages.proofs.several.first_with_moment.Given as goal

abbrev pub invariant-loop-place : goal.invariant-loop-place
invariant-loop-place l = (p : ℕ) (said : Said) → p < l.place
    → has_moment (slice_index_or (map said_by l.answered) p said) ≡ false
