use Rattle.wcp_world.proofs.Words.{refl, slice_get_read}
use Rattle.wcp_world.proofs.AnsweredEvents.{receives}
use Rattle.wcp_world.proofs.processes.Processes.receive.Goals as goal

pub returns-clause-answered : goal.returns-clause-answered
returns-clause-answered c =
    let at = slice_get_read c.self.inside.probes.items _ c.args.p c.in-Some.probe.now c.self.inside.probes.ok.0
    (c.in-Some.ensures.variant.0 refl) c.in-Some.ensures.value in
    rw (← c.self.view_is) (λ n watched flag c' put stands.
    receives n watched flag c' put _ stands c.args.p c.in-Some.probe.now at c.deliver.new.probe c.args.message
    c.deliver.result c.deliver.new.self c.deliver.ensures.answered c.deliver.ensures.delivered c.deliver.ensures.kept
    c.deliver.ensures.refused)
