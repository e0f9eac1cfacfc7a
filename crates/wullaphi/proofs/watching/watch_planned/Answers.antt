use Rattle.std.proofs.Common.{refl}
use Rattle.wullaphi.proofs.Ends.{all_done, come, few_ends, is_lost, is_watched, lost_as, of_loop}
use Rattle.wullaphi.proofs.watching.watch_planned.Goals as goal

pub first_lost-requires : goal.first_lost-requires
first_lost-requires g c = record {
  few = rw c.deref.ensures.value
      (few_ends g.P.LosableProcess.leaves g.P.LosableProcess.done c.requires.checked c.in_ok-parts.ensures.parts
      c.in_ok-workers.ensures);
}

pub returns-in-Some-clause-lost : goal.returns-in-Some-clause-lost
returns-in-Some-clause-lost g c =
    lost_as c.fault_of_lost.result (λ p report is.
    let lost = is_lost
    g.P.LosableProcess.leaves
    g.P.LosableProcess.done
    c.requires.checked
    c.in_ok-parts.ensures.parts
    c.in_ok-workers.ensures
    c.in-Some.process
    (rw c.deref.ensures.value at c.in-Some.ensures.lost)
    (rw c.deref.ensures.value at c.in-Some.ensures.before)
    is.2
    report
    is.1 in
    rw is.0 lost)
    c.fault_of_lost.ensures.lost

pub fault_of_lost-requires : goal.fault_of_lost-requires
fault_of_lost-requires g c =
    of_loop
    g.P.LosableProcess.leaves
    g.P.LosableProcess.done
    c.requires.checked
    c.in_ok-parts.ensures.parts
    c.in_ok-workers.ensures

pub reports_of-requires : goal.reports_of-requires
reports_of-requires g c =
    of_loop
    g.P.LosableProcess.leaves
    g.P.LosableProcess.done
    c.requires.checked
    c.in_ok-parts.ensures.parts
    c.in_ok-workers.ensures

pub take_apart-requires : goal.take_apart-requires
take_apart-requires g c = rw c.deref.ensures.value at c.in_default.ensures.none

pub settle-requires : goal.settle-requires
settle-requires g c =
    come
    g.P.LosableProcess.leaves
    g.P.LosableProcess.done
    c.requires.checked
    c.in_ok-parts.ensures.parts
    c.in_ok-workers.ensures
    c.in_ok-probes.probes.items
    c.in_ok-probes.ensures.probes

pub returns-clause-watched : goal.returns-clause-watched
returns-clause-watched g c =
    is_watched
    g.P.LosableProcess.leaves
    g.P.LosableProcess.done
    c.requires.checked
    c.in_ok-parts.ensures.parts
    c.in_ok-workers.ensures
    c.in_ok-probes.probes.items
    c.in_ok-probes.ensures.probes
    c.in_ok-probes.answers.items
    c.in_ok-probes.ensures.answers
    c.in_ok-outcome.ensures.settled
    _
    c.in_ok-reports.ensures
    c.totals-totals.ensures
    refl
    refl
    refl

pub returns-clause-done : goal.returns-clause-done
returns-clause-done g c =
    all_done
    g.P.LosableProcess.leaves
    g.P.LosableProcess.done
    c.requires.checked
    c.in_ok-parts.ensures.parts
    c.in_ok-workers.ensures
    c.in_ok-probes.probes.items
    c.in_ok-probes.ensures.probes
    c.in_ok-probes.answers.items
    c.in_ok-probes.ensures.answers
