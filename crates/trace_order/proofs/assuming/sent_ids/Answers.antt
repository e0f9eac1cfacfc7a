use Rattle.std.proofs.Common.{◌≡◌, ◌∙◌, ◌<◌, ◌++◌, ◌∷◌, [], ap, append-nil, arith, cond, filter, length}
use Rattle.std.proofs.Common.{map, string_bytes, sym, take}
use Rattle.std.proofs.lemmas.List.{length-map, map-append}
use Rattle.std.proofs.lemmas.List.Elements.{filter_more}
use Rattle.std.specs.HashMap.{get_by_text}
use Rattle.trace_order.specs.Ids.{id_at, is_known}
use Rattle.trace_order.proofs.Noting.{item_is}
use Rattle.trace_order.proofs.assuming.sent_ids.Goals as goal
use Rattle.trace_order.proofs.assuming.sent_ids.Goals.{then-contains_key+in_ok-from_str+in_ok-push, else-contains_key}

pub loop-id-preserved : goal.loop-id-preserved
loop-id-preserved c =
    let i = c.loop-id.id-index in
    let items = c.args.ids.now in
    let ids = map string_bytes items in
    let known = is_known (get_by_text c.args.announced.now) in
    let within : i < length items = omega arith in
    let within' : i < length ids = omega (arith, length-map items string_bytes) in
    let item = item_is string_bytes items i c.id-item.result within c.id-item.is in
    let here : id_at ids i ≡ c.as_str.result.now = item ∙ sym c.as_str.ensures.value in
    let more = filter_more known ids i [] within' in
    elim c.if-contains_key.branch [
      | then-contains_key+in_ok-from_str+in_ok-push w ↦
          ap (λ v. map string_bytes v.items) w.copies-is
          ∙ ap (map string_bytes) w.in_ok-push.ensures.items ∙ map-append string_bytes c.loop-id.copies.items _
          ∙ ap (λ l. l ++ string_bytes w.in_ok-from_str.field-0 ∷ []) c.loop-id.invariant
          ∙ ap (λ x. filter known (take i ids) ++ x ∷ [])
          (w.in_ok-from_str.ensures.ok ∙ w.as_str-then-contains_key.ensures.value ∙ sym item)
          ∙ ap (λ b. filter known (take i ids) ++ cond b (id_at ids i ∷ []) [])
          (sym (ap known here ∙ sym c.contains_key.ensures ∙ w.if-contains_key.true))
          ∙ sym more
      | else-contains_key w ↦
          ap (λ v. map string_bytes v.items) w.copies-is ∙ c.loop-id.invariant
          ∙ sym (append-nil (filter known (take i ids)))
          ∙ ap (λ b. filter known (take i ids) ++ cond b (id_at ids i ∷ []) [])
          (sym (ap known here ∙ sym c.contains_key.ensures ∙ w.if-contains_key.false))
          ∙ sym more
    ]
