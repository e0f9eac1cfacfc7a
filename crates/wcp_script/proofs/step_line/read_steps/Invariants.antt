use Rattle.wcp_script.proofs.Words.{◌≡◌, ◌≤◌, length, vec_len, lines_of, steps_by}
use Rattle.wcp_script.specs.TextFault.{steps_behind}
use Rattle.wcp_script.proofs.step_line.read_steps.Given as goal

abbrev pub invariant-loop-said : goal.invariant-loop-said
invariant-loop-said g l = record {
  few : vec_len l.steps ≤ 65536;
  so_far : steps_behind g.S.StepLine.text_kind l.n l.last l.steps.items
      (lines_of l.rest) ≡ steps_by g.S.StepLine.text_kind l.n l.last 0 (lines_of l.text);
}

abbrev pub decreases-loop-said : goal.decreases-loop-said
decreases-loop-said g l = length l.rest
