use Rattle.wcp_relay.specs.Members.{IsBelow}
use Rattle.wcp_tree.proofs.Gathering.{HasAllBelow}
use Rattle.wcp_tree.proofs.members.processes_below.Given as goal

abbrev pub invariant-loop-p : goal.invariant-loop-p
invariant-loop-p l = HasAllBelow l.members l.p (IsBelow l.plan l.relay)
