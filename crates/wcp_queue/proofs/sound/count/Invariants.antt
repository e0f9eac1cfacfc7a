use Rattle.wcp_queue.proofs.Words.{◌≡◌, ◌*◌, ◌^◌, ◌≤◌, take, sum}
use Rattle.wcp_queue.proofs.sound.count.Given as goal

abbrev pub invariant-loop-count : goal.invariant-loop-count
invariant-loop-count l = record {
  counted : l.all ≡ sum (take l.count-index l.taken);
  few : l.all ≤ 2 ^ 32 * l.count-index;
}
