use Rattle.std.proofs.Common.{◌≡◌, ◌∙◌, ◌<◌, ℕ, List, [], Option, Vec, Global, ap, arith, length, map, option_map, take}
use Rattle.std.proofs.Common.{string_bytes, sym, unwrap_or}
use Rattle.std.proofs.lemmas.List.{length-map}
use Rattle.std.proofs.lemmas.List.Sums.{fold_more}
use Rattle.std.specs.HashMap.{get_by_text}
use Rattle.trace_order.specs.Clocks.{greatest}
use Rattle.trace_order.specs.Ids.{id_at}
use Rattle.trace_order.specs.State.{sent_clock}
use Rattle.trace_order.proofs.Noting.{item_is}
use Rattle.trace_order.proofs.sent.sent_clock.Goals as goal

pub loop-id-preserved : goal.loop-id-preserved
loop-id-preserved c =
    let i = c.loop-id.id-index in
    let items = c.args.ids.now in
    let ids = map string_bytes items in
    let sent : List ℕ → Option (List ℕ) = λ id.
    option_map (λ (clock : Vec ℕ Global). clock.items) (get_by_text c.args.sent.now id) in
    let within : i < length items = omega arith in
    let within' : i < length ids = omega (arith, length-map items string_bytes) in
    let here : id_at ids i ≡ c.as_str.result.now =
    item_is string_bytes items i c.id-item.result within c.id-item.is ∙ sym c.as_str.ensures.value in
    c.in_ok-clock.ensures.clock
    ∙ ap (λ l. greatest l c.clock_of.result.now) (c.deref.ensures.value ∙ c.loop-id.invariant)
    ∙ ap (greatest (sent_clock sent (take i ids))) (c.clock_of.ensures ∙ ap (λ k. unwrap_or (sent k) []) (sym here))
    ∙ sym (fold_more (λ clock id. greatest clock (unwrap_or (sent id) [])) [] ids i [] within')
