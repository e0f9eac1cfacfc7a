use Rattle.trace_log.proofs.Words.{◌∙◌, ap, Ok}
use Rattle.trace_log.specs.Event.{clock_in_text}
use Rattle.trace_log.proofs.Keeps.{keeps-next, stamp_is, looked_next}
use Rattle.trace_log.proofs.stamp.parts_kept.Goals as goal

pub returns-in-Some-clause-stamp : goal.returns-in-Some-clause-stamp
returns-in-Some-clause-stamp c earlier kept =
    let given = c.in-Some.ensures.some in
    let hosts = c.args.hosts.now in
    let host = c.args.host.now in (
      looked_next hosts host (clock_in_text c.args.text.now) given.0 earlier kept given.1
          ∙ ap Ok (stamp_is hosts c.follow.new.self host given.0 c.in-Some.number given.2),
      keeps-next hosts c.follow.new.self host given.0 c.in-Some.number earlier kept given.2,
    )
