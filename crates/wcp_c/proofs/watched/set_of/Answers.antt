use Rattle.wcp_c.proofs.Members.{none_yet}
use Rattle.wcp_c.proofs.watched.set_of.Goals as goal

pub loop-number-init : goal.loop-number-init
loop-number-init c = rw c.none-set.ensures none_yet
