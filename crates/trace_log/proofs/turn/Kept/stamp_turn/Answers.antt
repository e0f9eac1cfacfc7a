use Rattle.trace_log.proofs.Words.{ap, Ok, [], string_bytes, ◌>>=◌}
use Rattle.trace_log.specs.Kept.{stamp_at}
use Rattle.trace_log.specs.Log.{whole}
use Rattle.trace_log.proofs.Keeps.{keeps-text}
use Rattle.trace_log.proofs.Turning.{event_turn}
use Rattle.trace_log.proofs.turn.Kept.stamp_turn.Goals as goal

pub returns-clause-turn : goal.returns-clause-turn
returns-clause-turn c form earlier at kept =
    let is = c.in_ok-host.ensures.stamp earlier kept in
    let hosts = c.stamp_kept.new.hosts in
    let text = string_bytes c.args.self.now.text in (
      ap (λ r. r >>= λ stamp. Ok (event_turn c.args.before (whole stamp text))) is.0,
      keeps-text hosts earlier (stamp_at hosts c.in_ok-host.host) [] text is.1,
    )
