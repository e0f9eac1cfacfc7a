use Rattle.wcp_tree.proofs.Words.{◌≡◌, Some, arith, Relay, parent_of, parent_below}
use Rattle.wcp_tree.proofs.Climbs.{met_below_itself, met_above}
use Rattle.wcp_tree.proofs.members.+is_met.Goals as goal

pub returns-then-from-relay : goal.returns-then-from-relay
returns-then-from-relay t c =
    met_below_itself c.args.plan.now c.requires c.args.relay c.args.from c.if-from-relay.true

pub is_met-requires : goal.is_met-requires
is_met-requires t c =
    let at : parent_of c.args.plan.now c.args.from ≡ Some (Relay c.in-Some-Relay.parent) = cc in
    let lower = parent_below c.args.plan.now c.requires c.args.from c.in-Some-Relay.parent at in
    (omega (arith, lower, c.decreases), c.requires)

pub returns-in-Some-Relay : goal.returns-in-Some-Relay
returns-in-Some-Relay t c =
    let at : parent_of c.args.plan.now c.args.from ≡ Some (Relay c.in-Some-Relay.parent) = cc in
    let up =
    met_above c.args.plan.now c.requires c.args.relay c.args.from c.in-Some-Relay.parent c.if-from-relay.false at in
    ((λ yes. up.0 (c.is_met.ensures.0 yes)), (λ met. c.is_met.ensures.1 (up.1 met)))
