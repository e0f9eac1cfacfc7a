use Rattle.trace_definitely.proofs.Reaching.{possible_at}
use Rattle.trace_definitely.proofs.Moments.{among, of_log}
use Rattle.trace_definitely.specs.Logs.{event_at, events_in}
use Rattle.trace_definitely.proofs.log_possibly_law.Goals as goal

pub returns : goal.returns
returns c = λ watched taken last rise ordered.
    let law = possible_at (events_in watched taken) ordered in (
      λ possibly.
          let found = law.0 possibly in
          (λ p. (event_at watched taken p (found.0 p)).logged, of_log watched taken last rise found.0 found.1),
      λ moment. law.1 (among watched taken last rise moment.0 moment.1),
    )
