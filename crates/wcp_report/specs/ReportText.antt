use Rattle.std.specs.Prelude.{ℕ, ◌+◌, Option, Some, None, List, [], ◌∷◌, ◌++◌, codes, sum_by}
use Rattle.std.specs.Fmt.{decimal}
use Rattle.std.specs.List.{flat_map}
use Rattle.wcp_model.specs.Cut.{Intervals}
use Rattle.wcp_model.specs.declared.outcome.Report.{Report}
use Rattle.wcp_model.specs.declared.outcome.Report.TheVariants.{Found, Nothing, Undecided}
use Rattle.wcp_model.specs.declared.outcome.Tally.{Tally}
use Rattle.wcp_model.specs.declared.outcome.Outcome.{Outcome}

-- A space, and the interval of a process in the cut; `-` where it isn't watched.
abbrev pub member_text : Option ℕ → List ℕ
member_text (Some interval) = 32 ∷ decimal interval
member_text None = codes " -"

-- `found`, and the interval of each watched process.
abbrev pub cut_text : Intervals → List ℕ
cut_text cut = codes "found" ++ (flat_map member_text cut ++ 10 ∷ [])

-- The line that says what is known of the bad moment.
abbrev pub report_line : Report → List ℕ
report_line (Found cut) = cut_text cut
report_line Nothing = codes "none\n"
report_line Undecided = codes "undecided\n"

-- How many snapshots were emitted and how many of them taken, to the end of a line.
abbrev pub counts_text : ℕ → ℕ → List ℕ
counts_text emitted taken = codes " emitted " ++ (decimal emitted ++ (codes " taken " ++ (decimal taken ++ 10 ∷ [])))

-- The line of a process.
abbrev pub process_line : ℕ → Tally → List ℕ
process_line p tally = codes "process " ++ (decimal p ++ counts_text tally.emitted tally.taken)

-- A line for each process, numbered on from p.
abbrev pub lines_from : ℕ → List Tally → List ℕ
lines_from p [] = []
lines_from p (tally ∷ tallies) = process_line p tally ++ lines_from (p + 1) tallies

abbrev pub process_lines : List Tally → List ℕ
process_lines tallies = lines_from 0 tallies

-- The line of the sums.
abbrev pub total_line : List Tally → List ℕ
total_line tallies =
    codes "total" ++ counts_text (sum_by (λ tally. tally.emitted) tallies) (sum_by (λ tally. tally.taken) tallies)

-- The text of an outcome: the report, the tally of each process, and the sums.
unfoldable pub outcome_text : Outcome → List ℕ
outcome_text outcome = report_line outcome.report ++ (process_lines outcome.tallies ++ total_line outcome.tallies)
