use Rattle.wcp_run.proofs.Words.{ℕ, ◌<◌, IsReasonOf}
use Rattle.wcp_run.specs.declared.run_fault.RunFault.TheVariants.{Lost}
use Rattle.wcp_run.proofs.first_fault.lowest_lost.Given as goal

abbrev pub invariant-loop-p : goal.invariant-loop-p
invariant-loop-p l = (q : ℕ) → q < l.p → ¬ IsReasonOf l.ends (Lost q)
