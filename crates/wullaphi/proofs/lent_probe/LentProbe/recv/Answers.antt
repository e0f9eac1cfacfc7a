use Rattle.std.proofs.Common.{sym}
use Rattle.wullaphi.proofs.lent_probe.LentProbe.recv.Goals as goal

pub returns-in-Ok-receive-clause-received : goal.returns-in-Ok-receive-clause-received
returns-in-Ok-receive-clause-received g c = (
  c.in-Ok.message,
  c.receive.new.self,
  sym c.in-Ok-receive.ensures.value,
  c.in-Ok-receive.ensures.first,
  c.in-Ok-receive.ensures.accepted,
  c.observe_again.ensures.again,
)
