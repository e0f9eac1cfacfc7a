use Rattle.std.proofs.Common.{◌≡◌, ◌∙◌, ◌||◌, ◌<◌, None, map, take, string_bytes, length, arith, ap, sym}
use Rattle.std.proofs.Common.{cond}
use Rattle.std.proofs.lemmas.List.{length-map}
use Rattle.std.proofs.lemmas.Map.Text.{hash_map_updates_text}
use Rattle.std.specs.HashMap.{get_by_text}
use Rattle.std.specs.Str.{bytes_eq}
use Rattle.trace_order.specs.Messages.{is_among}
use Rattle.trace_order.specs.Ids.{id_at}
use Rattle.trace_order.proofs.Noting.{among_more, item_is, noted_more}
use Rattle.trace_order.proofs.announce.retract.Goals as goal

pub loop-id-preserved : goal.loop-id-preserved
loop-id-preserved c = λ id.
    let i = c.loop-id.id-index in
    let items = c.args.ids.now in
    let ids = map string_bytes items in
    let before = get_by_text c.args.announced.now id in
    let among = is_among id (take i ids) in
    let within : i < length items = omega arith in
    let within' : i < length ids = omega (arith, length-map items string_bytes) in
    let here : id_at ids i ≡ c.as_str.result.now =
    item_is string_bytes items i c.id-item.result within c.id-item.is ∙ sym c.as_str.ensures.value in
    hash_map_updates_text c.as_str.result.now c.loop-id.announced c.remove.new.self _ c.remove.ensures.updates id
    ∙ ap (λ o. cond (bytes_eq c.as_str.result.now id) None o) (c.loop-id.invariant id)
    ∙ noted_more among (bytes_eq c.as_str.result.now id) None before
    ∙ ap (λ k. cond (among || bytes_eq k id) None before) (sym here)
    ∙ ap (λ b. cond b None before) (sym (among_more id ids i within'))
