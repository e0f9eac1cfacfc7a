use Rattle.trace_definitely.proofs.Reaching.{possible_at}
use Rattle.trace_definitely.proofs.possibly_law.Goals as goal

pub returns : goal.returns
returns c = λ events is. possible_at events is
