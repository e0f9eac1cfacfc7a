use Rattle.wcp_script.proofs.Words.{string_bytes, opening_lines, cap_lines, hold_lines, tree_lines, watch_lines}
use Rattle.wcp_script.proofs.Words.{flag_lines}
use Rattle.wcp_script.proofs.PrintedLines.{head_printed}
use Rattle.wcp_script.proofs.printing.push_head.Goals as goal

pub returns : goal.returns
returns c =
    let plan = c.args.plan.now in
    head_printed c.push_flag.result _ _ _ _ _ _ (string_bytes c.push_flag.new.text) (opening_lines plan.n) (cap_lines
    plan.cap) (hold_lines plan.hold) (tree_lines plan) (watch_lines plan.n plan.watched) (flag_lines plan.flag)
    c.in_ok-push_opening.ensures c.in_ok-push_cap.ensures c.in_ok-push_hold.ensures c.in_ok-push_tree.ensures
    c.in_ok-push_watch.ensures c.push_flag.ensures
