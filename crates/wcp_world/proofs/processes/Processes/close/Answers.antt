use Rattle.wcp_world.proofs.Words.{refl, slice_get_read}
use Rattle.wcp_model.specs.declared.step.Step.TheVariants as step
use Rattle.wcp_world.proofs.AnsweredEvents.{close_reasons, refuses_as, closes}
use Rattle.wcp_world.proofs.processes.Processes.close.Goals as goal
use Rattle.wcp_world.proofs.processes.Processes.close.Goals.{in-Ok, in-Err}

pub returns-clause-answered : goal.returns-clause-answered
returns-clause-answered c =
    let core = c.in-Some.probe.now in
    let at = slice_get_read c.self.inside.probes.items _ c.args.p core c.self.inside.probes.ok.0
    (c.in-Some.ensures.variant.0 refl) c.in-Some.ensures.value in
    rw (← c.self.view_is) (λ n watched flag c' put stands. elim c.match-close.branch [
      | in-Ok w ↦ rw w.result-is (closes n watched flag c' put _ stands c.args.p core at c.close.new.self
          w.in-Ok.ensures.first w.in-Ok.ensures.accepted w.in-Ok.ensures.pending)
      | in-Err w ↦ rw w.result-is
          (refuses_as n watched flag c' put _ stands c.args.p core at c.close.new.self
          (step.Close c.args.p) _ w.in-Err.refusal _ _ w.in-Err.ensures.refused refl
          (close_reasons n watched flag c' put _ stands c.args.p core at) w.in-Err.ensures.first w.why_of.ensures)
    ])
