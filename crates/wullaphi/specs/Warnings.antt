-- What is printed of what looks wrong in a watch.
use Rattle.std.specs.Prelude.{ℕ, ◌+◌, ◌==◌, ◌&&◌, if◌then◌else◌, nat_lt, List, [], ◌∷◌, ◌++◌, codes}
use Rattle.std.specs.Fmt.{decimal}
use Rattle.wullaphi.specs.declared.process_counts.ProcessCounts.{ProcessCounts}

-- The line for process p, if it is watched and never observed its condition.
abbrev pub observed_warning : ℕ → ProcessCounts → List ℕ
observed_warning p counts =
    if counts.watched && (counts.observed == 0)
    then codes "warning: process " ++ (decimal p ++ codes " never observed its condition\n")
    else []

-- The line for process p, if fewer of its messages were received than it stamped.
abbrev pub received_warning : ℕ → ProcessCounts → List ℕ
received_warning p counts =
    if nat_lt counts.received counts.stamped
    then codes "warning: messages of process " ++ (decimal p ++ (codes ": " ++ (decimal counts.stamped
    ++ (codes " stamped, " ++ (decimal counts.received ++ codes " received\n")))))
    else []

abbrev pub process_warnings : ℕ → ProcessCounts → List ℕ
process_warnings p counts = observed_warning p counts ++ received_warning p counts

-- The lines for processes that are numbered on from p.
abbrev pub warnings_from : ℕ → List ProcessCounts → List ℕ
warnings_from p [] = []
warnings_from p (counts ∷ others) = process_warnings p counts ++ warnings_from (p + 1) others

abbrev pub warning_lines : List ProcessCounts → List ℕ
warning_lines counts = warnings_from 0 counts
