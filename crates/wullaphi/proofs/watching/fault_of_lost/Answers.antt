use Rattle.std.proofs.Common.{refl, rules}
use Rattle.wullaphi.proofs.watching.fault_of_lost.Goals as goal

pub returns-then-eq-clause-lost : goal.returns-then-eq-clause-lost
returns-then-eq-clause-lost c =
    (refl, c.report.ensures.told c.requires.0 c.requires.1 c.requires.2, search rules)
