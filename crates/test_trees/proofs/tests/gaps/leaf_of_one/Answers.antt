use Rattle.test_trees.proofs.Leaves.{serves_one}
use Rattle.test_trees.proofs.tests.gaps.leaf_of_one.Goals as goal

pub leaf_relay-relay-requires-clause-serves : goal.leaf_relay-relay-requires-clause-serves
leaf_relay-relay-requires-clause-serves g c =
    let e = c.in-Ok.ensures in
    serves_one e.0 c.in-Ok.feeds.items c.args.putter.members e.1 e.2 (e.3, e.4, e.5, e.6) c.requires.members
