use Rattle.trace_definitely.proofs.Waits.{ends_found, ends_none}
use Rattle.trace_definitely.proofs.waiting_ends_law.Goals as goal

pub returns : goal.returns
returns c = λ watched taken waiting rise waits.
    (ends_found watched taken waiting waits, ends_none watched taken waiting waits rise)
