use Rattle.std.proofs.Common.{◌∷◌, arith}
use Rattle.wcp_model.proofs.PlanPaths.{slice_get_here}
use Rattle.wcp_model.proofs.plan.+path_length.Goals as goal

pub returns-in-Relay-clause-path : goal.returns-in-Relay-clause-path
returns-in-Relay-clause-path t c =
    let rest = c.path_length.ensures.path in
    (c.in-Relay.above ∷ rest.0, (slice_get_here _ _ _ _ c.requires.within c.in-Relay.is, rest.1), omega (arith, rest.2))
