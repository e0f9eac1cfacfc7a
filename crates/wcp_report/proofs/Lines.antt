use Rattle.std.proofs.Common.{◌≡◌, ℕ, ◌+◌, List, ◌∷◌, ◌++◌, take, drop, slice_get, Some, sum_by, append_assoc, arith}
use Rattle.std.proofs.Math.Seq.{drop-cons}
use Rattle.std.proofs.lemmas.List.Sums.{sum_by_more}
use Rattle.std.proofs.lemmas.Option.{slice_get_within, get_or_from_slice_get}
use Rattle.wcp_model.specs.declared.outcome.Tally.{Tally}
use Rattle.wcp_report.specs.ReportText.{process_line, lines_from}

-- what is left of a list at an element begins with it
drop-at : (tallies : List Tally) (p : ℕ) (tally : Tally) → slice_get tallies p ≡ Some tally
    → drop p tallies ≡ tally ∷ drop (p + 1) tallies
drop-at tallies p tally here =
    grind (
      arith,
      get_or_from_slice_get tallies p tally tally here,
      drop-cons tallies p tally (slice_get_within tallies p tally here),
    )

-- the text with the line of process p, and then the lines that are left
pub line_more : (text new all : List ℕ) (tallies : List Tally) (p : ℕ) (tally : Tally)
    → slice_get tallies p ≡ Some tally → new ≡ text ++ process_line p tally
    → text ++ lines_from p (drop p tallies) ≡ all → new ++ lines_from (p + 1) (drop (p + 1) tallies) ≡ all
line_more text new all tallies p tally here is_new before = grind (arith, append_assoc, drop-at)

-- one more term of a sum
pub sum_more : (f : Tally → ℕ) (tallies : List Tally) (p : ℕ) (tally : Tally) → slice_get tallies p ≡ Some tally
    → sum_by f (take (p + 1) tallies) ≡ sum_by f (take p tallies) + f tally
sum_more f tallies p tally here =
    grind (
      arith,
      get_or_from_slice_get tallies p tally tally here,
      sum_by_more f tallies p tally (slice_get_within tallies p tally here),
    )
