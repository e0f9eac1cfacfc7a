use Rattle.wcp_script.proofs.Words.{◌≡◌, ◌++◌, flat_map, range_with_len, ring_round}
use Rattle.wcp_script.proofs.ring.push_rounds.Given as goal

abbrev pub invariant-loop-round : goal.invariant-loop-round
invariant-loop-round l =
    l.tasks.items ≡ l.fn.tasks.items ++ flat_map (ring_round l.n l.rounds) (range_with_len 0 l.round)
