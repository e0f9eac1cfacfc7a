use Rattle.std.proofs.Common.{◌∙◌, Some, ap, arith, sym}
use Rattle.trace_order.specs.State.{is_announced}
use Rattle.trace_order.proofs.Receiving.{first_is_not, none_isnt}
use Rattle.trace_order.proofs.order.MessageOrder.first_unannounced.Goals as goal

pub returns-then-not-contains_key : goal.returns-then-not-contains_key
returns-then-not-contains_key c =
    let known = is_announced c.args.self.now in
    ap Some c.as_str-then-not-contains_key.ensures.value
    ∙ first_is_not known c.args.ids.now c.loop-id.id-index c.id-item.result (omega arith) c.id-item.is
    c.loop-id.invariant
    (ap known (sym c.as_str.ensures.value) ∙ sym c.contains_key.ensures ∙ c.if-not-contains_key.true)

pub loop-id-preserved : goal.loop-id-preserved
loop-id-preserved c =
    let known = is_announced c.args.self.now in
    none_isnt known c.args.ids.now c.loop-id.id-index c.id-item.result (omega arith) c.id-item.is c.loop-id.invariant
    (ap known (sym c.as_str.ensures.value) ∙ sym c.contains_key.ensures ∙ c.if-not-contains_key.false)
