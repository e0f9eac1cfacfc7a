use Rattle.std.proofs.Common.{◌≡◌, ◌≤◌, length, ap, arith}
use Rattle.wcp_model.specs.Cut.{Intervals}
use Rattle.wcp_model.specs.declared.outcome.Report.TheVariants.{Found}
use Rattle.wcp_queue.specs.Checker.{CheckerState, report_of}
use Rattle.wcp_c.specs.Tags.{IsSpent}
use Rattle.wcp_saved.specs.declared.watch.Tagged.{Tagged}

-- no cut has a process beyond its length
pub spent_beyond : (checker : CheckerState) (cut : Intervals) (tagged : Tagged) → report_of checker ≡ Found cut
    → length cut ≤ tagged.process → IsSpent checker tagged
spent_beyond checker cut tagged is beyond = λ items stands fed watched named other come same.
    absurd (omega (arith, beyond, watched.below, come.come.one.members.processes, ap length (come.found cut is)))
