-- What is told of a report beside itself.
use Rattle.std.specs.Prelude.{ℕ, Option, Some, None}
use Rattle.wcp_model.specs.Cut.{Intervals}
use Rattle.wcp_model.specs.declared.outcome.Report.{Report}
use Rattle.wcp_model.specs.declared.outcome.Report.TheVariants.{Found, Nothing, Undecided}

-- The cut of a report, if it is one.
abbrev pub cut_of : Report → Option Intervals
cut_of (Found cut) = Some cut
cut_of Nothing = None
cut_of Undecided = None

-- The exit status after a report: 0 where a bad moment was found.
abbrev pub status_of : Report → ℕ
status_of (Found cut) = 0
status_of Nothing = 1
status_of Undecided = 1
