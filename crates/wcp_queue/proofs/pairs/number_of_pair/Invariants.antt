use Rattle.wcp_queue.proofs.Words.{◌≡◌, ◌≤◌, ◌*◌}
use Rattle.wcp_queue.specs.Pairs.{pairs_before}
use Rattle.wcp_queue.proofs.pairs.number_of_pair.Given as goal

abbrev pub invariant-loop-lesser : goal.invariant-loop-lesser
invariant-loop-lesser l = record {
  counted : l.before ≡ pairs_before l.n l.lesser;
  few : l.before ≤ 16 * l.lesser;
}
