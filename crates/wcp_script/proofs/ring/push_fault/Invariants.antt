use Rattle.wcp_script.proofs.Words.{◌≡◌, ◌≤◌, ◌-◌, ◌++◌, flat_map, range_with_len, finds_both}
use Rattle.wcp_script.proofs.ring.push_fault.Given as goal

abbrev pub invariant-loop-p : goal.invariant-loop-p
invariant-loop-p l = record {
  from_one : 1 ≤ l.p;
  tasks : l.tasks.items ≡ l.fn.tasks.items ++ flat_map finds_both (range_with_len 1 (l.p - 1));
}
