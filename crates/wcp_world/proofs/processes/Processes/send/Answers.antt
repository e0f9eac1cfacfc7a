use Rattle.wcp_world.proofs.Words.{refl, sym, ◌∙◌, slice_get_read}
use Rattle.wcp_model.specs.declared.step.Step.TheVariants as step
use Rattle.wcp_world.proofs.AnsweredEvents.{send_reasons, refuses_as, sends}
use Rattle.wcp_world.proofs.processes.Processes.send.Goals as goal
use Rattle.wcp_world.proofs.processes.Processes.send.Goals.{in-Some-refusal, in-None}

pub returns-clause-answered : goal.returns-clause-answered
returns-clause-answered c =
    let core = c.in-Some.probe.now in
    let at = slice_get_read c.self.inside.probes.items _ c.args.p core c.self.inside.probes.ok.0
    (c.in-Some.ensures.variant.0 refl) c.in-Some.ensures.value in
    let told = c.in_ok-refusal.ensures in
    rw (← c.self.view_is) (λ n watched flag c' put stands. elim c.match-refusal.branch [
      | in-None w ↦ rw w.result-is (sends n watched flag c' put _ stands c.args.p core at c.post.new.probe c.args.to
          c.post.new.self (sym told.first ∙ w.in-None.is) (told.posted w.in-None.is))
      | in-Some-refusal w ↦
          let same = told.refused w.in-Some-refusal.refusal w.in-Some-refusal.is in
          rw w.result-is
          (refuses_as n watched flag c' put _ stands c.args.p core at c.post.new.probe
          (step.Send c.args.p c.args.to) _ w.in-Some-refusal.refusal _ _ same.0 same.1 (send_reasons n watched flag
          c' put _ stands c.args.p core at c.args.to) (sym told.first ∙ w.in-Some-refusal.is) w.why_of.ensures)
    ])
