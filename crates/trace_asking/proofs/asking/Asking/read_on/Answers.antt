use Rattle.trace_asking.proofs.Words.{refl}
use Rattle.trace_asking.proofs.asking.Asking.read_on.Goals as goal

pub returns-then-self : goal.returns-then-self
returns-then-self g c whole logged given = rw c.if-self.true (refl, refl, refl)

pub returns : goal.returns
returns g c whole logged given =
    rw c.if-self.false (c.read_on.ensures whole logged (rw c.if-self.false at given))
