use Rattle.wcp_run.proofs.Words.{◌≡◌, ◌<◌, ◌≤◌, arith, sym, subst, ◌∙◌, true≢false, ⊎_elim, cases_lt, length}
use Rattle.wcp_run.proofs.Words.{IsReasonOf}
use Rattle.wcp_run.proofs.RunFaults.{none_lost_past}
use Rattle.wcp_run.specs.declared.run_fault.RunFault.TheVariants.{Lost}
use Rattle.wcp_run.proofs.first_fault.lowest_lost.Goals as goal

pub loop-p-preserved : goal.loop-p-preserved
loop-p-preserved c = λ q below lost. ⊎_elim
    (λ (before : q < c.loop-p.p). c.loop-p.invariant q before lost)
    (λ (behind : c.loop-p.p ≤ q).
    let same : q ≡ c.loop-p.p = omega arith in
    true≢false
    (sym (c.is_lost.ensures.1 (subst (λ r. IsReasonOf c.args.ends.now (Lost r)) same lost)) ∙ c.if-is_lost.false))
    (cases_lt q c.loop-p.p)

pub returns-clause-none : goal.returns-clause-none
returns-clause-none c =
    none_lost_past c.args.ends.now c.requires.told
    (λ q (below : q < length c.args.ends.now.workers.items). c.loop-p.invariant q
    (omega (arith, below, c.len-p-end.ensures, c.loop-p-test.false)))
