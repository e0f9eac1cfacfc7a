use Rattle.wcp_script.proofs.Words.{sym, ◌∙◌, arith, seen_line, seen_head}
use Rattle.wcp_script.proofs.HeadLines.{head_more}
use Rattle.wcp_script.proofs.head.read_head_lines.Goals as goal

pub loop-line-preserved : goal.loop-line-preserved
loop-line-preserved g c =
    let more = head_more g.S.StepLine.text_kind.is_step_word (seen_head c.loop-line.head) c.loop-line.last _
    (seen_line c.in-Some.line) _ c.in-Ok.said c.in-Some.ensures.line (sym c.in-Ok.ensures.exact) in
    record {
      within = c.in_ok-add.ensures.within;
      lines = omega (arith, c.in_ok-add.ensures.longer, c.loop-line.invariant.lines);
      so_far = rw c.in_ok-add.ensures.exact (sym more ∙ c.loop-line.invariant.so_far);
    }
