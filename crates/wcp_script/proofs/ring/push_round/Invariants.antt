use Rattle.wcp_script.proofs.Words.{◌≡◌, ◌++◌, flat_map, range_with_len, ring_turn}
use Rattle.wcp_script.proofs.ring.push_round.Given as goal

abbrev pub invariant-loop-p : goal.invariant-loop-p
invariant-loop-p l =
    l.tasks.items ≡ l.fn.tasks.items ++ flat_map (ring_turn l.n l.rounds l.round) (range_with_len 0 l.p)
