use Rattle.std.proofs.Common.{◌∙◌, ℕ, Bool, List, Some, Vec, Global, ap, arith, is_some, option_map, sym}
use Rattle.std.specs.HashMap.{get_by_text}
use Rattle.trace_order.proofs.Receiving.{first_is_not, none_isnt, some_mapped}
use Rattle.trace_order.proofs.sent.first_unsent.Goals as goal

pub returns-then-not-contains_key : goal.returns-then-not-contains_key
returns-then-not-contains_key c =
    let seen = option_map (λ (clock : Vec ℕ Global). clock.items) in
    let was_sent : List ℕ → Bool = λ id. is_some (seen (get_by_text c.args.sent.now id)) in
    ap Some c.as_str-then-not-contains_key.ensures.value
    ∙ first_is_not was_sent c.args.ids.now c.loop-id.id-index c.id-item.result (omega arith) c.id-item.is
    c.loop-id.invariant
    (ap was_sent (sym c.as_str.ensures.value)
    ∙ some_mapped (λ (clock : Vec ℕ Global). clock.items) (get_by_text c.args.sent.now c.as_str.result.now)
    ∙ sym c.contains_key.ensures ∙ c.if-not-contains_key.true)

pub loop-id-preserved : goal.loop-id-preserved
loop-id-preserved c =
    let seen = option_map (λ (clock : Vec ℕ Global). clock.items) in
    let was_sent : List ℕ → Bool = λ id. is_some (seen (get_by_text c.args.sent.now id)) in
    none_isnt was_sent c.args.ids.now c.loop-id.id-index c.id-item.result (omega arith) c.id-item.is c.loop-id.invariant
    (ap was_sent (sym c.as_str.ensures.value)
    ∙ some_mapped (λ (clock : Vec ℕ Global). clock.items) (get_by_text c.args.sent.now c.as_str.result.now)
    ∙ sym c.contains_key.ensures ∙ c.if-not-contains_key.false)
