use Rattle.std.proofs.KnownBytes.{Keeps-trans}
use Rattle.trace_cli.proofs.Statuses.{not_answered, status_is_small}
use Rattle.trace_cli.proofs.program.drive.Goals as goal

pub returns-in-Err-clause-status : goal.returns-in-Err-clause-status
returns-in-Err-clause-status g c = status_is_small c.refuse_before.result c.in-Err.fault c.refuse_before.ensures.status

pub returns-in-Err-clause-silent : goal.returns-in-Err-clause-silent
returns-in-Err-clause-silent g c closed = Keeps-trans _ _ _ c.in-Err.ensures.silent (c.refuse_before.ensures.silent closed)

pub returns-in-Err-clause-does : goal.returns-in-Err-clause-does
returns-in-Err-clause-does g c = rw c.refuse_before.ensures.status c.in-Err.ensures.does

pub returns-in-Err-clause-quiet : goal.returns-in-Err-clause-quiet
returns-in-Err-clause-quiet g c small = absurd (not_answered c.refuse_before.result c.in-Err.fault c.refuse_before.ensures.status small)
