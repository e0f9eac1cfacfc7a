use Rattle.std.proofs.Common.{ap, ◌∙◌}
use Rattle.std.specs.FinSet as set
use Rattle.wcp_lane.proofs.Steps.{gives}
use Rattle.wcp_lane.proofs.opening.give.Goals as goal

pub another-requires-clause-rule : goal.another-requires-clause-rule
another-requires-clause-rule g c =
    gives _ _ _ _ _ _ _ _ c.requires.taker
    (λ p below given. c.requires.among p below (ap (λ numbers. set.contains numbers p) c.requires.numbers ∙ given))
