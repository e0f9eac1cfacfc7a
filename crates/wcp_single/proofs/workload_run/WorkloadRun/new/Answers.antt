use Rattle.wcp_model.specs.declared.probe_setup.ProbeSetup.{ProbeSetup}
use Rattle.wcp_single.proofs.Words.{IsRunning, ◌≡◌, ◌+◌, ◌*◌, [], replicate, sym, ap, ◌∙◌, subst, arith}
use Rattle.wcp_single.proofs.StartedRun.{AreNew, one_more_new, run_starts}
use Rattle.wcp_single.proofs.workload_run.WorkloadRun.new.Goals as goal

pub loop-id-preserved : goal.loop-id-preserved
loop-id-preserved c =
    subst (AreNew c.args.plan.now.n c.args.plan.now.watched c.args.plan.now.flag (c.loop-id.id + 1))
    (sym c.in_ok-push.ensures.items) (one_more_new c.args.plan.now.n c.args.plan.now.watched c.args.plan.now.flag
    c.loop-id.id c.loop-id.processes.items c.new.result c.loop-id.invariant
    (subst (λ (made : ProbeSetup). IsRunning made [] c.new.result) c.probe_setup.ensures c.new.ensures))

pub returns : goal.returns
returns c =
    let counted : c.loop.counter ≡ c.args.plan.now.n * c.args.plan.now.n = omega arith in
    run_starts c.args.plan.now.n c.args.plan.now.watched c.args.plan.now.flag c.loop-id.processes.items
    c.loop.in_transit.items c.in_ok-new.field-0 c.loop.invariant.0
    (c.loop.invariant.1 ∙ ap (λ count. replicate count []) counted)
    (record {
      processes_are = c.in_ok-new.ensures.processes;
      watched_are = c.in_ok-new.ensures.watched;
      stands = c.in_ok-new.ensures.empty;
      not_starved = c.in_ok-new.ensures.not_starved;
    })
