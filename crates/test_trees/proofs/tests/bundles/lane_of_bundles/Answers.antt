use Rattle.std.proofs.Common.{◌≡◌, sym, subst, rules, arith}
use Rattle.std.specs.FinSet as set
use Rattle.std.proofs.lemmas.Grind.{common_steps}
use Rattle.wcp_lane.specs.Ends.{new_putter}
use Rattle.test_trees.specs.BundleLanes.{HasPut}
use Rattle.test_trees.proofs.Pairs.{new_HasPut}
use Rattle.test_trees.proofs.tests.bundles.lane_of_bundles.Goals as goal

pub returns-clause-new : goal.returns-clause-new
returns-clause-new c =
    let name = c.in_ok-putters.taker.lane in
    let is : c.in-Some.putter ≡ new_putter name (set.insert set.empty 0) =
    first_of (search rules, grind (arith, common_steps)) in
    subst (HasPut 0) (sym is) (new_HasPut name)
