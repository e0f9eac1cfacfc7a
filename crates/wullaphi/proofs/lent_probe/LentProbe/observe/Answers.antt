use Rattle.std.proofs.Common.{sym, ap, ◌∙◌}
use Rattle.wcp_model.specs.ProbeLog.{Observed}
use Rattle.wcp_probe.specs.Core.{Core}
use Rattle.wullaphi.proofs.LentProbes.{observed, still_lent}
use Rattle.wullaphi.proofs.lent_probe.LentProbe.observe.Goals as goal

pub invariant_of-self : goal.invariant_of-self
invariant_of-self g c =
    still_lent c.self.invariant (Observed c.args.holds)
    (λ log live. c.flush_in_watch.ensures.stands _ (c.observe.ensures.accepted log live))
    (rw (c.flush_in_watch.ensures.core, c.observe.ensures.pending) (observed c.observe.result c.self.inside.probe.core))
    (c.flush_in_watch.ensures.ring ∙ ap (λ link. link.ring) c.observe.ensures.link)
    (ap (λ (core : Core). core.pending) c.flush_in_watch.ensures.core)

pub returns-clause-same : goal.returns-clause-same
returns-clause-same g c = rw (← c.self.view_is) ((invariant_of-self g c).of_process ∙ sym c.self.invariant.of_process)
