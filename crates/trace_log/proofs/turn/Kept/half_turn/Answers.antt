use Rattle.trace_log.proofs.Words.{ap, Ok, ◌>>=◌}
use Rattle.trace_log.specs.Log.{stamped}
use Rattle.trace_log.proofs.Turning.{half_turn}
use Rattle.trace_log.proofs.turn.Kept.half_turn.Goals as goal

pub returns-clause-turn : goal.returns-clause-turn
returns-clause-turn c earlier at kept =
    let is = c.in_ok-host.ensures.stamp earlier kept in
    (ap (λ r. r >>= λ stamp. Ok (half_turn (stamped stamp))) is.0, is.1)
