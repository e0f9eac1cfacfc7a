use Rattle.std.proofs.Common.{◌≡◌, ◌++◌, drop, map}
use Rattle.trace_pages.specs.Pages.{said_by, said_of_other}
use Rattle.trace_pages.proofs.log_page.others_of.Given as goal

abbrev pub invariant-loop-place : goal.invariant-loop-place
invariant-loop-place g l = map said_of_other l.others.items ++ map said_by (drop l.place l.answered)
    ≡ map said_by (drop 1 l.answered)
