use Rattle.trace_definitely.proofs.Deciding.{least_at}
use Rattle.trace_definitely.proofs.least_runs_law.Goals as goal

pub returns : goal.returns
returns c = λ events is. least_at events is
