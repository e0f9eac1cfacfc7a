use Rattle.wcp_tree.proofs.Words.{◌≡◌, length, AreMemberSetsOf}
use Rattle.wcp_tree.proofs.lane_wiring.member_sets.Given as goal

abbrev pub invariant-loop-relay : goal.invariant-loop-relay
invariant-loop-relay l = record {
  count : length l.member_sets.items ≡ l.relay;
  each : AreMemberSetsOf l.plan l.owner l.member_sets.items;
}
