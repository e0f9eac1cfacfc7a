use Rattle.trace_definitely.proofs.Waits.{grows}
use Rattle.trace_definitely.proofs.waiting_grows_law.Goals as goal

pub returns : goal.returns
returns c = λ watched taken waiting next at waits distinct host is.
    grows watched taken waiting waits next at distinct host is
