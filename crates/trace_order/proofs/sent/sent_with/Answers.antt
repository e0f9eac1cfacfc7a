use Rattle.std.proofs.Common.{◌≡◌, ◌∙◌, ◌<◌, ◌++◌, ◌∷◌, [], map, string_bytes, length, arith, ap, sym}
use Rattle.std.proofs.lemmas.List.{length-map, map-append}
use Rattle.trace_order.specs.Ids.{id_at}
use Rattle.trace_order.specs.Sent.{seen_sent, sent_with}
use Rattle.trace_order.proofs.Noting.{item_is, sent_more}
use Rattle.trace_order.proofs.sent.sent_with.Goals as goal

pub loop-id-preserved : goal.loop-id-preserved
loop-id-preserved c =
    let i = c.loop-id.id-index in
    let items = c.args.ids.now in
    let ids = map string_bytes items in
    let id = string_bytes c.in_ok-from_str.field-0 in
    let clock = c.in_ok-from_slice.field-0.items in
    let within : i < length items = omega arith in
    let within' : i < length ids = omega (arith, length-map items string_bytes) in
    let here : id_at ids i ≡ id =
    item_is string_bytes items i c.id-item.result within c.id-item.is
    ∙ sym (c.in_ok-from_str.ensures.ok ∙ c.as_str.ensures.value) in
    ap (map seen_sent) c.in_ok-push.ensures.items ∙ map-append seen_sent c.loop-id.noted.items _
    ∙ ap (λ l. l ++ sent_with clock id ∷ []) c.loop-id.invariant
    ∙ sent_more c.args.clock.now ids i within' id (sym here) clock c.in_ok-from_slice.ensures.items
