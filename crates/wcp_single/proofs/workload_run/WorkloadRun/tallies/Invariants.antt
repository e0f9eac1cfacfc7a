use Rattle.wcp_single.proofs.Words.{◌≡◌, ℕ, ◌<◌, length, get_or, Tally, taken_of, WorkloadProcess}
use Rattle.wcp_single.proofs.workload_run.WorkloadRun.tallies.Given as goal

abbrev pub invariant-loop-p : goal.invariant-loop-p
invariant-loop-p l = record {
  cells : length l.tallies ≡ 16;
  emitted : (k : ℕ) (tally : Tally) (process : WorkloadProcess) → k < l.p
      → (get_or l.tallies k tally).emitted ≡ (get_or l.self.processes.items k process).probe.emitted;
  taken : (k : ℕ) (tally : Tally) → k < l.p → (get_or l.tallies k tally).taken ≡ taken_of l.self.checker k;
}
