use Rattle.wcp_script.proofs.Words.{◌≡◌, drop, list_all, is_first}
use Rattle.wcp_script.proofs.printing.are_served_by_first.Given as goal

abbrev pub invariant-loop-entry : goal.invariant-loop-entry
invariant-loop-entry l = list_all is_first l.attach ≡ list_all is_first (drop l.entry-index l.attach)
