use Rattle.wcp_lane.proofs.Words.{◌≡◌, ℕ, ◌<◌, not, [], map, take, list_any, most_processes, Numbers, taker, lane_of}
use Rattle.wcp_lane.proofs.Words.{hand_of, unowned_by, new_putter}
use Rattle.std.specs.FinSet as set
use Rattle.crossbeam_channel.specs.Ends.{sends_on}
use Rattle.crossbeam_channel.specs.Claims.{IsSeatAt}
use Rattle.wcp_lane.proofs.opening.open.Given as goal

abbrev pub ghosts-give : goal.ghosts-give
ghosts-give g a = record { numbers = a.numbers.now }

abbrev pub invariant-loop-numbers : goal.invariant-loop-numbers
invariant-loop-numbers g l = record {
  seat : IsSeatAt (sends_on l.sender) l.pass;
  knows : hand_of l.pass ≡ taker (unowned_by (hand_of l.pass)) [];
  rest : (p : ℕ) → p < most_processes
      → set.contains (unowned_by (hand_of l.pass)) p ≡ not
      (list_any (λ (s : Numbers). set.contains s p) (take l.numbers-index l.member_sets));
  made : l.putters.items ≡ map (new_putter (lane_of l.pass)) (take l.numbers-index l.member_sets);
}
