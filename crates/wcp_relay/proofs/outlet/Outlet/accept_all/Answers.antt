use Rattle.wcp_relay.proofs.Words.{◌≡◌, ◌++◌, ◌∷◌, [], List, take, None, sym, refl, ◌∙◌, subst, arith, IfNone}
use Rattle.wcp_relay.proofs.Words.{append-nil, take_all, Item, items_of, handed, IsFaithful, ItemsMayFollow}
use Rattle.wcp_relay.proofs.Accepting.{next_may, each_none, handed_more, faithful_next, faithful_first}
use Rattle.wcp_relay.proofs.Faithful.{only_none}
use Rattle.wcp_relay.proofs.outlet.Outlet.accept_all.Goals as goal

pub loop-item-init : goal.loop-item-init
loop-item-init g c =
    record {
      same = (refl, refl);
      sound = c.requires.sound;
      handed = only_none ((c.args.self.now.cut ≡ None) × (handed c.args.self.now ≡ handed c.args.self.now ++ []))
          c.args.self.now.cut (λ none. (none, sym (append-nil (handed c.args.self.now))));
      faithful = λ taken faithful. faithful_first taken _ faithful;
    }

pub accept-requires-clause-owned : goal.accept-requires-clause-owned
accept-requires-clause-owned g c =
    let old = c.loop-item.invariant in
    let follow = subst (λ (xs : List Item). IfNone c.args.self.now.cut (ItemsMayFollow c.args.self.now.putter.members
    (handed c.args.self.now) xs)) (sym c.items-items.ensures.value) c.requires.follow in
    each_none _ _ c.loop-item.self.cut (λ may. may.owned)
    (next_may c.args.self.now c.loop-item.self c.items-items.result.now c.loop-item.item-index c.item-item.result
    c.loop-item-test.true c.item-item.is old.same follow old.handed)

pub accept-requires-clause-next : goal.accept-requires-clause-next
accept-requires-clause-next g c =
    let old = c.loop-item.invariant in
    let follow = subst (λ (xs : List Item). IfNone c.args.self.now.cut (ItemsMayFollow c.args.self.now.putter.members
    (handed c.args.self.now) xs)) (sym c.items-items.ensures.value) c.requires.follow in
    each_none _ _ c.loop-item.self.cut (λ may. may.next)
    (next_may c.args.self.now c.loop-item.self c.items-items.result.now c.loop-item.item-index c.item-item.result
    c.loop-item-test.true c.item-item.is old.same follow old.handed)

pub loop-item-preserved : goal.loop-item-preserved
loop-item-preserved g c =
    let old = c.loop-item.invariant in
    let same = c.accept.ensures.same in
    let items : List Item = c.items-items.result.now in
    let item = c.item-item.result in
    let new = c.accept.new.self in
    let step = subst (λ (x : Item). IfNone new.cut ((c.loop-item.self.cut ≡ None)
    × (handed new ≡ handed c.loop-item.self ++ x ∷ []))) c.item-item.is c.accept.ensures.handed in
    record {
      same = (same.0 ∙ old.same.0, same.1 ∙ old.same.1);
      sound = c.accept.ensures.sound;
      handed = handed_more c.args.self.now c.loop-item.self new items c.loop-item.item-index item c.loop-item-test.true
          old.handed step;
      faithful = λ taken faithful. faithful_next taken c.loop-item.self new items c.loop-item.item-index item
          c.loop-item-test.true (old.faithful taken faithful) step c.accept.ensures.let_go;
    }

pub returns-clause-faithful : goal.returns-clause-faithful
returns-clause-faithful g c = λ taken faithful.
    let items : List Item = c.items-items.result.now in
    let all : take c.loop-item.item-index items ≡ c.args.bundle.now =
    take_all c.loop-item.item-index items (omega (arith, c.loop-item-test.false)) ∙ c.items-items.ensures.value in
    subst (λ (xs : List Item). IsFaithful (λ p. taken p ++ items_of p xs) c.loop-item.self) all
    (c.loop-item.invariant.faithful taken faithful)
