use Rattle.trace_log.proofs.Words.{arith, ap, sym, ◌∙◌, number_of, seen_clock}
use Rattle.trace_log.proofs.Falls.{falls-next, falls-some}
use Rattle.trace_log.proofs.order.falls.Goals as goal

pub returns-then-number_kept-one : goal.returns-then-number_kept-one
returns-then-number_kept-one c =
    let is = c.number_kept.ensures ∙ c.in_ok-numbers.ensures c.as_str.result.now
    ∙ ap (λ text. number_of text (seen_clock c.args.later.now)) c.as_str.ensures.value in
    sym (falls-some c.args.earlier.now (seen_clock c.args.later.now) c.loop-one.one-index c.one-item.result
    c.loop-one-test.true c.one-item.is (omega (arith, is)))

pub loop-one-preserved : goal.loop-one-preserved
loop-one-preserved c =
    let is = c.number_kept.ensures ∙ c.in_ok-numbers.ensures c.as_str.result.now
    ∙ ap (λ text. number_of text (seen_clock c.args.later.now)) c.as_str.ensures.value in
    falls-next c.args.earlier.now (seen_clock c.args.later.now) c.loop-one.one-index c.one-item.result
    c.loop-one-test.true c.one-item.is c.loop-one.invariant (omega (arith, is))
