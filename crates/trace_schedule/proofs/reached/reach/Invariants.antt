use Rattle.std.proofs.Common.{◌≡◌, ℕ, List, max, take}
use Rattle.trace_log.specs.Clock.{number_of}
use Rattle.trace_log.specs.Kept.{number_kept}
use Rattle.trace_log.specs.Views.{seen_clock}
use Rattle.trace_schedule.proofs.reached.reach.Given as goal

abbrev pub invariant-loop-member : goal.invariant-loop-member
invariant-loop-member l = (host : List ℕ) → number_kept l.reached host
    ≡ max (number_kept l.initial.reached host) (number_of host (seen_clock (take l.member-index l.clock)))
