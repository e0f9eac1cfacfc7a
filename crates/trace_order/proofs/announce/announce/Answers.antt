use Rattle.std.proofs.Common.{◌≡◌, ◌∙◌, ◌||◌, ◌<◌, Err, None, Some, is_some, map, take, string_bytes, length, arith, ap}
use Rattle.std.proofs.Common.{cond, sym}
use Rattle.std.proofs.lemmas.List.{length-map, take-map}
use Rattle.std.specs.HashMap.{get_by_text}
use Rattle.std.specs.Str.{bytes_eq}
use borrow.Author.Count.{below_more}
use Rattle.trace_order.specs.Messages.{is_among}
use Rattle.trace_order.specs.Ids.{Second, id_at, is_known, with_announced}
use Rattle.trace_order.specs.declared.order_fault.PutFault.TheVariants.{Twice}
use Rattle.trace_order.proofs.Noting.{among_more, first_second, item_is, new_absent, not_known, noted_more, out_again}
use Rattle.trace_order.proofs.Noting.{second_known}
use Rattle.trace_order.proofs.announce.announce.Goals as goal
use Rattle.trace_order.proofs.announce.announce.Goals.{After-retract}

pub returns-in-Err-clause-same : goal.returns-in-Err-clause-same
returns-in-Err-clause-same c = λ id.
    let i = c.loop-place.place in
    let items = c.args.ids.now in
    let ids = map string_bytes items in
    let before = get_by_text c.args.announced.now in
    let most : i < length ids = omega (arith, c.loop-place-test.true, length-map items string_bytes) in
    c.retract.ensures id
    ∙ ap (λ o. cond (is_among id (map string_bytes (take i items))) None o)
    (c.in-Err.ensures.same id ∙ c.loop-place.invariant.added id)
    ∙ ap (λ l. cond (is_among id l) None (with_announced before c.args.line (take i ids) id))
    (sym (take-map string_bytes i items))
    ∙ out_again (is_among id (take i ids)) c.args.line (before id)
    (λ there. not_known (before id)
    (new_absent (is_known before) ids i (omega (arith, most)) c.loop-place.invariant.new id there))

-- The id at the place that is looked at, and the line that sends it first.
found_at : (c : After-retract) (second : Second) → c.announce_one.result ≡ Err (Twice second)
    → (id_at (map string_bytes c.args.ids.now) c.loop-place.place ≡ second.id)
    × (with_announced (get_by_text c.args.announced.now) c.args.line
    (take c.loop-place.place (map string_bytes c.args.ids.now))
    (id_at (map string_bytes c.args.ids.now) c.loop-place.place) ≡ Some second.first)
found_at c second is =
    let i = c.loop-place.place in
    let items = c.args.ids.now in
    let ids = map string_bytes items in
    let within : i < length items = omega arith in
    let here : id_at ids i ≡ c.as_str.result.now =
    item_is string_bytes items i c.index-ids-place.result within c.index-ids-place.is ∙ sym c.as_str.ensures.value in
    let twice = c.announce_one.ensures.twice second is in (
      here ∙ sym twice.0,
      sym (c.loop-place.invariant.added (id_at ids i)) ∙ ap (get_by_text c.loop-place.announced) here ∙ twice.1,
    )

pub returns-in-Err-clause-twice : goal.returns-in-Err-clause-twice
returns-in-Err-clause-twice c = λ second is.
    let i = c.loop-place.place in
    let items = c.args.ids.now in
    let ids = map string_bytes items in
    let before = get_by_text c.args.announced.now in
    let within : i < length ids = omega (arith, c.loop-place-test.true, length-map items string_bytes) in
    (i, within, second_known before c.args.line ids i ∙ ap is_some (found_at c second (c.in-Err.is ∙ is)).1)

pub returns-in-Err-clause-first : goal.returns-in-Err-clause-first
returns-in-Err-clause-first c = λ second is.
    let i = c.loop-place.place in
    let items = c.args.ids.now in
    let ids = map string_bytes items in
    let before = get_by_text c.args.announced.now in
    let within : i < length ids = omega (arith, c.loop-place-test.true, length-map items string_bytes) in
    let found = found_at c second (c.in-Err.is ∙ is) in
    first_second before c.args.line ids i second within c.loop-place.invariant.new found.0 found.1

pub loop-place-preserved : goal.loop-place-preserved
loop-place-preserved c =
    let i = c.loop-place.place in
    let items = c.args.ids.now in
    let ids = map string_bytes items in
    let before = get_by_text c.args.announced.now in
    let line = c.args.line in
    let within : i < length items = omega arith in
    let within' : i < length ids = omega (arith, length-map items string_bytes) in
    let here : id_at ids i ≡ c.as_str.result.now =
    item_is string_bytes items i c.index-ids-place.result within c.index-ids-place.is ∙ sym c.as_str.ensures.value in
    record {
      added = λ id.
          c.in_default.ensures.added id
          ∙ ap (λ o. cond (bytes_eq c.as_str.result.now id) (Some line) o) (c.loop-place.invariant.added id)
          ∙ noted_more (is_among id (take i ids)) (bytes_eq c.as_str.result.now id) (Some line) (before id)
          ∙ ap (λ k. cond (is_among id (take i ids) || bytes_eq k id) (Some line) (before id)) (sym here)
          ∙ ap (λ b. cond b (Some line) (before id)) (sym (among_more id ids i within'));
      new = below_more _ _ c.loop-place.invariant.new (
          second_known before line ids i
          ∙ ap is_some (sym (c.loop-place.invariant.added (id_at ids i))
          ∙ ap (get_by_text c.loop-place.announced) here ∙ c.in_default.ensures.new)
          );
    }
