use Rattle.wcp_script.proofs.Words.{◌≡◌, ◌≤◌, length, lines_of, IsWithinLimits, head_by, line_count, seen_head}
use Rattle.wcp_script.proofs.head.read_head_lines.Given as goal

abbrev pub invariant-loop-line : goal.invariant-loop-line
invariant-loop-line g l = record {
  within : IsWithinLimits (seen_head l.head);
  lines : l.last ≤ line_count (seen_head l.head);
  so_far : head_by g.S.StepLine.text_kind.is_step_word (seen_head l.head) l.last
      (lines_of l.rest) ≡ head_by g.S.StepLine.text_kind.is_step_word (seen_head l.fn.head) 2 (lines_of l.text);
}

abbrev pub decreases-loop-line : goal.decreases-loop-line
decreases-loop-line g l = length l.rest
