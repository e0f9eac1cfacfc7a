use Rattle.wcp_worker.proofs.Words.{rules, Received}
use Rattle.wcp_worker.proofs.player.Player.receive.Goals as goal

pub returns-in-Ok-clause-done : goal.returns-in-Ok-clause-done
returns-in-Ok-clause-done g c = (
  Received c.in_ok-stamped.stamped.clock,
  record {
    is_call = tt;
    accepted = search rules;
    lanes = search rules;
    own = search rules;
    sent = search rules;
    taken = search rules;
  },
)
