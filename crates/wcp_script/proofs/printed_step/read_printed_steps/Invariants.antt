use Rattle.wcp_script.proofs.Words.{◌≡◌, ℕ, ◌≤◌, length, vec_len, lines_of, schedules}
use Rattle.wcp_script.specs.TextFault.{steps_behind}
use Rattle.wcp_script.proofs.printed_step.read_printed_steps.Given as goal

abbrev pub invariant-loop-rest : goal.invariant-loop-rest
invariant-loop-rest l = record {
  few : vec_len l.steps ≤ 65536;
  so_far : (n last : ℕ) → steps_behind schedules n last l.steps.items (lines_of l.rest)
      ≡ steps_behind schedules n last l.initial.steps.items (lines_of l.text);
  shorter : length l.rest ≤ length l.text;
}

abbrev pub decreases-loop-rest : goal.decreases-loop-rest
decreases-loop-rest l = length l.rest
