use Rattle.trace_log.proofs.Words.{ap, Ok, [], string_bytes, ◌>>=◌}
use Rattle.trace_log.specs.Kept.{stamp_at}
use Rattle.trace_log.proofs.Keeps.{keeps-text}
use Rattle.trace_log.proofs.Turning.{event_turn}
use Rattle.trace_log.proofs.turn.Kept.event_turn.Goals as goal

pub returns-clause-turn : goal.returns-clause-turn
returns-clause-turn c earlier kept =
    let is = c.in_ok-host.ensures.event earlier kept in
    let hosts = c.event_kept.new.hosts in (
      ap (λ r. r >>= λ event. Ok (event_turn c.args.at event)) is.0,
      keeps-text hosts earlier (stamp_at hosts c.in_ok-host.host) [] (string_bytes c.event_kept.new.said) is.1,
    )
