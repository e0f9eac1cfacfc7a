use Rattle.std.proofs.Common.{◌≡◌, ◌∙◌, length, arith, sym}
use Rattle.std.proofs.lemmas.Slice.Eq.{bytes_eq-Decides}
use Rattle.trace_order.proofs.Kept.{number_is}
use Rattle.trace_order.proofs.order.MessageOrder.number_of.Goals as goal

pub returns-then-eq-clause-first : goal.returns-then-eq-clause-first
returns-then-eq-clause-first c =
    number_is c.args.self.now.hosts.items c.args.name.now c.loop-number.number
    (omega (arith, c.loop-number-test.true, c.len-number-end.ensures)) c.loop-number.invariant
    (λ within. sym c.name.ensures
    ∙ (bytes_eq-Decides c.name.result.now c.args.name.now).0 (sym c.eq.ensures ∙ c.if-eq.true))

pub returns-clause-first : goal.returns-clause-first
returns-clause-first c =
    let all : c.loop-number.number ≡ length c.args.self.now.hosts.items = omega (
      arith,
      c.loop-number-test.false,
      c.len-number-end.ensures,
      c.loop-number.auto.number-end,
    ) in
    number_is c.args.self.now.hosts.items c.args.name.now c.loop-number.number (omega (arith, all))
    c.loop-number.invariant (λ within. absurd (omega (arith, within, all))) ∙ all
