use Rattle.wcp_relay.proofs.Words.{◌≡◌, ◌++◌, ◌∷◌, [], ◌-◌, ◌<◌, List, length, None, Some, sym, ap, ◌∙◌, refl, subst}
use Rattle.wcp_relay.proofs.Words.{true≢false, arith, slice_get, length-append, slice_get_within, Item, IsFirstBundle}
use Rattle.wcp_relay.proofs.Words.{MayJoin}
use Rattle.wcp_relay.proofs.Bundling.{first_bundle_is, front_more}
use Rattle.wcp_relay.proofs.Passing.{none_held}
use Rattle.wcp_relay.proofs.outlet.first_bundle.Goals as goal

pub returns-in_default-clause-none : goal.returns-in_default-clause-none
returns-in_default-clause-none c = none_held c.args.hold.now.items (sym c.front.ensures ∙ c.in_default.is)

pub loop-item-init : goal.loop-item-init
loop-item-init c =
    let items : List Item = c.args.hold.now.items in
    let more = front_more items [] items c.in-Some.first refl (sym c.front.ensures ∙ c.in-Some.is) in
    (more.0, more.1 ∙ ap (λ (xs : List Item). xs ++ more.0) (sym c.one-bundle.ensures))

pub returns-in-Err-clause-some : goal.returns-in-Err-clause-some
returns-in-Err-clause-some c =
    let items : List Item = c.args.hold.now.items in
    let bundle : List Item = c.loop-item.bundle in
    let here : slice_get items (length bundle) ≡ Some c.in-Some-get.item =
    ap (slice_get items) (sym c.len.ensures.count) ∙ sym c.get.ensures ∙ c.in-Some-get.is in
    subst (IsFirstBundle items) (sym c.in-Err.ensures.err.1)
    (first_bundle_is items bundle c.loop-item.invariant.0 c.loop-item.invariant.1 (λ next there may.
    let both : Some next ≡ Some c.in-Some-get.item = sym there ∙ here in
    let one : next ≡ c.in-Some-get.item = cc in
    true≢false (sym (c.in-Err.ensures.joins.1 (subst (MayJoin bundle) one may)))))

pub loop-item-smaller : goal.loop-item-smaller
loop-item-smaller c =
    let items : List Item = c.args.hold.now.items in
    let bundle : List Item = c.loop-item.bundle in
    let here : slice_get items (length bundle) ≡ Some c.in-Some-get.item =
    ap (slice_get items) (sym c.len.ensures.count) ∙ sym c.get.ensures ∙ c.in-Some-get.is in
    let within : length bundle < length items = slice_get_within items (length bundle) c.in-Some-get.item here in
    let fewer : (length items - length c.add.new.self) < (length items - length bundle) =
    omega (arith, within, ap length c.in_default-add.ensures.ok, length-append bundle (c.in-Some-get.item ∷ [])) in
    fewer

pub loop-item-preserved : goal.loop-item-preserved
loop-item-preserved c =
    let items : List Item = c.args.hold.now.items in
    let bundle : List Item = c.loop-item.bundle in
    let here : slice_get items (length bundle) ≡ Some c.in-Some-get.item =
    ap (slice_get items) (sym c.len.ensures.count) ∙ sym c.get.ensures ∙ c.in-Some-get.is in
    let more = front_more items bundle c.loop-item.invariant.0 c.in-Some-get.item c.loop-item.invariant.1 here in
    (more.0, more.1 ∙ ap (λ (xs : List Item). xs ++ more.0) (sym c.in_default-add.ensures.ok))

pub returns-clause-some : goal.returns-clause-some
returns-clause-some c =
    let items : List Item = c.args.hold.now.items in
    first_bundle_is items c.loop-item.bundle c.loop-item.invariant.0 c.loop-item.invariant.1 (λ next there may.
    let no : None ≡ Some next = sym c.in_default-get.is ∙ c.get.ensures ∙ ap (slice_get items) c.len.ensures.count
    ∙ there in cc)
