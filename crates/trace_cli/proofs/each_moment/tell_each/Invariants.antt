use Rattle.wcp_io.specs.Reader.{left}
use Rattle.trace_cli.specs.EachMoment.{IsTellingMoments}
use Rattle.trace_cli.proofs.each_moment.tell_each.Given as goal

abbrev pub invariant-loop-count : goal.invariant-loop-count
invariant-loop-count g l =
    let remaining = g.I.Read.remaining in
    let contents = g.O.Write.contents in
    IsTellingMoments l.fn.form l.fn.format l.fn.conditions (remaining l.fn.input)
    (left l.moments.events.lines (remaining l.input)) (contents l.fn.output) (contents l.output) l.count l.moments
