use Rattle.wcp_script.proofs.Words.{◌≡◌, ℕ, ◌≤◌, length, vec_len, lines_of, workloads}
use Rattle.wcp_script.specs.TextFault.{steps_behind}
use Rattle.wcp_script.proofs.printed_line.read_printed_tasks.Given as goal

abbrev pub invariant-loop-rest : goal.invariant-loop-rest
invariant-loop-rest l = record {
  few : vec_len l.tasks ≤ 65536;
  so_far : (last : ℕ) → steps_behind workloads l.n last l.tasks.items
      (lines_of l.rest) ≡ steps_behind workloads l.n last l.initial.tasks.items (lines_of l.text);
  shorter : length l.rest ≤ length l.text;
}

abbrev pub decreases-loop-rest : goal.decreases-loop-rest
decreases-loop-rest l = length l.rest
