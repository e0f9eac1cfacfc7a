use Rattle.trace_definitely.proofs.Deciding.{definite_at}
use Rattle.trace_definitely.proofs.definitely_law.Goals as goal

pub returns : goal.returns
returns c = λ events is. definite_at events is
