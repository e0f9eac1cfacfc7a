use Rattle.wcp_relay.proofs.Words.{◌≡◌, ◌++◌, true, None, [], sym, ap, ◌∙◌, refl, subst, arith, length, Item, Held}
use Rattle.wcp_relay.proofs.Words.{handed, IsNextItem}
use Rattle.std.specs.FinSet as set
use Rattle.wcp_relay.proofs.Passing.{sound_same, sound_taken, is_none, if_none, unless_err}
use Rattle.wcp_relay.proofs.outlet.Outlet.accept.Goals as goal

pub returns-in_default-clause-sound : goal.returns-in_default-clause-sound
returns-in_default-clause-sound g c =
    let none = is_none _ (sym c.is_some.ensures ∙ c.if-is_some.false) in
    sound_taken c.args.self.now _ c.args.item c.requires.sound
    (if_none _ _ none c.requires.owned) (if_none _ _ none c.requires.next) refl c.in_default.ensures.ok

pub pass_on-requires : goal.pass_on-requires
pass_on-requires g c = sound_same c.args.self.now _ c.requires.sound refl c.in-Err.ensures.err.1

pub returns-then-is_none-clause-sound : goal.returns-then-is_none-clause-sound
returns-then-is_none-clause-sound g c =
    let none = is_none _ (sym c.is_some.ensures ∙ c.if-is_some.false) in
    let passed = c.pass_on.ensures in
    let same : c.args.item ≡ c.in-Err.item = sym c.in-Err.ensures.err.0 in
    let whole : handed c.pass_on.new.self ≡ handed c.args.self.now =
    passed.handed ∙ ap (λ (h : Held). c.args.self.now.putter.put ++ h.items) c.in-Err.ensures.err.1 in
    let none_now : c.pass_on.new.self.cut ≡ None = is_none _ c.if-is_none.ensures in
    let empty : c.pass_on.new.self.hold.items ≡ [] = (if_none _ _ none_now passed.empty).1 in
    let own : set.contains c.pass_on.new.self.putter.members c.in-Err.item.from ≡ true =
    subst (λ (i : Item). set.contains c.pass_on.new.self.putter.members i.from ≡ true) same
    (subst (λ m. set.contains m c.args.item.from ≡ true) (sym passed.same.1) (if_none _ _ none c.requires.owned)) in
    let next : IsNextItem (handed c.pass_on.new.self) c.in-Err.item =
    subst (λ (i : Item). IsNextItem (handed c.pass_on.new.self) i) same
    (subst (λ xs. IsNextItem xs c.args.item) (sym whole) (if_none _ _ none c.requires.next)) in
    let put = unless_err _ c.push-then-is_none.result
    (λ err. let full = c.push-then-is_none.ensures.full.0 err in
    absurd (omega (arith, ap length empty, full, passed.sound.room)))
    c.push-then-is_none.ensures.ok in
    sound_taken c.pass_on.new.self _ c.in-Err.item passed.sound own next refl put
