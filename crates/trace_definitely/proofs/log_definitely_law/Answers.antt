use Rattle.trace_definitely.specs.Logs.{events_in}
use Rattle.trace_definitely.proofs.Deciding.{definite_at}
use Rattle.trace_definitely.proofs.LogRuns.{by_events, of_events, run_of}
use Rattle.trace_definitely.proofs.log_definitely_law.Goals as goal

pub returns : goal.returns
returns c = λ watched taken rise ordered.
    let law = definite_at (events_in watched taken) ordered in (
      λ definitely.
          let found = law.0 definitely in
          (run_of watched taken rise found.0 found.1, by_events watched taken rise found.0 found.1 found.2),
      λ runs. law.1 (of_events watched taken rise runs.0 runs.1),
    )
