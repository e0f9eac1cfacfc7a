use Rattle.std.proofs.Common.{◌≡◌, ◌*◌, ◌^◌, ◌≤◌, take, sum_by}
use Rattle.wcp_report.proofs.report_lines.push_total.Given as goal

abbrev pub invariant-loop-p : goal.invariant-loop-p
invariant-loop-p l = record {
  emitted : l.emitted ≡ sum_by (λ tally. tally.emitted) (take l.p l.tallies);
  taken : l.taken ≡ sum_by (λ tally. tally.taken) (take l.p l.tallies);
  emitted_bound : l.emitted ≤ l.p * 2 ^ 64;
  taken_bound : l.taken ≤ l.p * 2 ^ 64;
}
