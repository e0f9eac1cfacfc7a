use Rattle.trace_detect.proofs.Words.{◌≡◌, ◌++◌, ℕ, drop, map, Logged}
use Rattle.trace_moment.specs.Search.{Keeps}
use Rattle.trace_detect.specs.Told.{members_from, seen_member}
use Rattle.trace_detect.proofs.told.members_of.Given as goal

abbrev pub invariant-loop-place : goal.invariant-loop-place
invariant-loop-place l = (moment : ℕ → Logged) → Keeps l.search moment
    → map seen_member l.members.items ++ members_from l.place (drop l.place l.conditions) moment
    ≡ members_from 0 l.conditions moment
