use Rattle.trace_definitely.proofs.Waits.{begins}
use Rattle.trace_definitely.proofs.waiting_begins_law.Goals as goal

pub returns : goal.returns
returns c = λ watched. begins watched
