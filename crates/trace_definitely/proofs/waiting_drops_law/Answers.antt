use Rattle.trace_definitely.proofs.Waits.{drops}
use Rattle.trace_definitely.proofs.waiting_drops_law.Goals as goal

pub returns : goal.returns
returns c = λ watched taken waiting p q run other runs others over waits p_host q_host isnt at_p at_q ends unknown.
    drops watched taken waiting waits p q p_host q_host isnt run other runs others over at_p at_q ends unknown
