use Rattle.std.proofs.Common.{IfErr, refl}
use Rattle.trace_condition.proofs.Handed.{handed_on}
use Rattle.trace_cli.specs.Scheduled.{RefusesInOrder, fault_of}
use Rattle.trace_cli.proofs.detecting.detect.Goals as goal

pub returns-in_ok-in_order-in-Ok-clause-detects : goal.returns-in_ok-in_order-in-Ok-clause-detects
returns-in_ok-in_order-in-Ok-clause-detects g c =
    rw c.if-not-options.false (record {
      recorded = c.in-Ok.recorded;
      answers = c.in-Ok.ensures;
      lists = c.in_ok-in_order-in-Ok.ensures.listed;
    })

pub returns-in_err-in_order-in-Ok-clause-refuses : goal.returns-in_err-in_order-in-Ok-clause-refuses
returns-in_err-in_order-in-Ok-clause-refuses g c =
    let why = c.in_err-in_order-in-Ok.field-0.0 in
    handed_on (λ detected. IfErr detected (RefusesInOrder c.args.options.now.form c.args.question.now
    (g.I.Read.remaining c.args.input.now) (g.I.Read.remaining c.ask_recorded.new.input)))
    c.from_residual.result (fault_of why) c.from_residual.ensures (record {
      recorded = c.in-Ok.recorded;
      answers = c.in-Ok.ensures;
      why = why;
      refuses = c.in_err-in_order-in-Ok.ensures.refused;
      is = refl;
    })
