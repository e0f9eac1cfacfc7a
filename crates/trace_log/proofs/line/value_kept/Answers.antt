use Rattle.trace_log.proofs.Words.{◌∙◌, ◌>>=◌, ap, Ok, Some, option_map, value_view, seen_clock}
use Rattle.trace_log.specs.Event.{clock_in}
use Rattle.trace_log.specs.Kept.{stamp_of}
use Rattle.trace_log.proofs.Keeps.{keeps-next, stamp_is, looked_next}
use Rattle.trace_log.proofs.Stamps.{clock_in-distinct, value_distinct}
use Rattle.trace_log.proofs.line.value_kept.Goals as goal

pub clock_kept-requires : goal.clock_kept-requires
clock_kept-requires c =
    clock_in-distinct _ (seen_clock c.in_ok-clock.clock.items) c.in_ok-clock.ensures (λ json same.
    value_distinct _ json c.requires same)

pub returns-in-Some-value_followed-clause-stamp : goal.returns-in-Some-value_followed-clause-stamp
returns-in-Some-value_followed-clause-stamp c earlier kept =
    let given = c.in-Some-value_followed.ensures.some in
    let hosts = c.args.hosts.now in
    let host = c.args.host.now in
    let new = c.value_followed.new.hosts in
    let number = c.in-Some-value_followed.number in
    let value = ap (λ o. option_map (λ v. value_view v.now) o) c.in-Some.is in (
      ap (λ o. clock_in o >>= stamp_of earlier host) value
          ∙ looked_next hosts host (clock_in (Some (value_view c.in-Some.object.now))) given.0 earlier kept given.1
          ∙ ap Ok (stamp_is hosts new host given.0 number given.2),
      keeps-next hosts new host given.0 number earlier kept given.2,
    )
