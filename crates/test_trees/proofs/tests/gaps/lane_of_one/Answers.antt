use Rattle.std.proofs.Common.{◌≡◌, ap, rules, arith}
use Rattle.std.specs.FinSet as set
use Rattle.std.proofs.lemmas.Grind.{common_steps}
use Rattle.wcp_clock.specs.declared.note.Item.{Item}
use Rattle.wcp_lane.specs.Ends.{PutEnd, new_putter}
use Rattle.wcp_relay.specs.declared.bundle.Bundle.{Bundle}
use Rattle.test_trees.proofs.tests.gaps.lane_of_one.Goals as goal

pub returns-clause-members : goal.returns-clause-members
returns-clause-members g c =
    let name = c.in-Ok.taker.lane in
    let is : c.in-Some.putter ≡ new_putter name (set.insert set.empty 0) =
    first_of (search rules, grind (arith, common_steps)) in
    ap (λ (end : PutEnd Bundle Item). end.members) is

pub returns-clause-none_put : goal.returns-clause-none_put
returns-clause-none_put g c =
    let name = c.in-Ok.taker.lane in
    let is : c.in-Some.putter ≡ new_putter name (set.insert set.empty 0) =
    first_of (search rules, grind (arith, common_steps)) in
    ap (λ (end : PutEnd Bundle Item). end.put) is
