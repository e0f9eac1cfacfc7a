-- An outlet stays sound as it passes an item on, and as it takes one in.
use Rattle.wcp_relay.proofs.Words.{◌≡◌, ◌≢◌, ℕ, ◌<◌, true, false, Option, None, Some, List, [], ◌∷◌, ◌++◌, length, drop}
use Rattle.wcp_relay.proofs.Words.{length-append, sym, refl, ap, ◌∙◌, subst, ⊎_elim, append_assoc, rules, arith, All}
use Rattle.wcp_relay.proofs.Words.{slice_get, Result, Ok, Err, IsErr, OnOk, IfNone, is_some, cases_eq, append-nil}
use Rattle.wcp_relay.proofs.Words.{drop_at, All-drop, All-push, Item, IsNext, place_of, is_last, PutEnd, All-front}
use Rattle.wcp_relay.proofs.Words.{AreInSequence-push, may_follow, Held, Bundle, Outlet, items_of, IsFirstBundle}
use Rattle.wcp_relay.proofs.Words.{handed, IsNextItem, AreItemsInSequence, IsSound, ItemsMayFollow, HasPutBundles}
use Rattle.wcp_relay.proofs.Words.{AreFirstBundles}
use Rattle.std.specs.FinSet as set
use Rattle.wcp_relay.proofs.Lists.{items_of-append, items_of-own, items_of-other}

-- the first bundle may follow what was put
pub first_follow : (o : Outlet) (bundle : List Item) → IsSound o → IsFirstBundle o.hold.items bundle
    → ItemsMayFollow o.putter.members o.putter.put bundle
first_follow o bundle sound first =
    let members = o.putter.members in
    may_follow (λ (i : Item). i.from) (λ (i : Item). place_of i.note) (λ (i : Item). is_last i.note)
    (λ p. set.contains members p ≡ true) members (handed o)
    (λ p own. sound.runs p) (λ p own some. own) o.putter.put bundle first.rest (ap (λ xs. o.putter.put ++ xs) first.is)
    (All-front (λ (i : Item). set.contains members i.from ≡ true) bundle first.rest
    (subst (All (λ (i : Item). set.contains members i.from ≡ true)) first.is sound.owned))

rest_of : (items bundle : List Item) (first : IsFirstBundle items bundle) → drop (length bundle) items ≡ first.rest
rest_of items bundle first = ap (drop (length bundle)) first.is ∙ drop_at bundle first.rest (length bundle) refl

-- the first bundle was put
pub handed_passed : (o new : Outlet) (bundle : List Item) → IsFirstBundle o.hold.items bundle
    → new.putter ≡ record o.putter { messages = o.putter.messages ++ bundle ∷ []; put = o.putter.put ++ bundle }
    → new.hold ≡ record o.hold { items = drop (length bundle) o.hold.items }
    → handed new ≡ handed o
handed_passed o new bundle first putter hold =
    (λ i. (putter i).put ++ (hold i).items)
    ∙ ap (λ xs. (o.putter.put ++ bundle) ++ xs) (rest_of o.hold.items bundle first)
    ∙ append_assoc o.putter.put bundle first.rest ∙ ap (λ xs. o.putter.put ++ xs) (sym first.is)

pub sound_passed : (o new : Outlet) (bundle : List Item) → IsSound o → IsFirstBundle o.hold.items bundle
    → new.putter ≡ record o.putter { messages = o.putter.messages ++ bundle ∷ []; put = o.putter.put ++ bundle }
    → new.hold ≡ record o.hold { items = drop (length bundle) o.hold.items }
    → IsSound new
sound_passed o new bundle sound first putter hold =
    let numbers = ap (λ (e : PutEnd Bundle Item). e.members) putter in
    let rest =
    All-drop (λ (i : Item). set.contains o.putter.members i.from ≡ true) (length bundle) o.hold.items sound.owned in
    record {
      room = subst (λ n. 0 < n) (sym (ap (λ (h : Held). h.room) hold)) sound.room;
      owned = subst (λ m. All (λ (i : Item). set.contains m i.from ≡ true) new.hold.items) (sym numbers)
          (subst (All (λ (i : Item). set.contains o.putter.members i.from ≡ true))
          (sym (ap (λ (h : Held). h.items) hold)) rest);
      runs = λ p. subst (λ xs. AreItemsInSequence (items_of p xs)) (sym (handed_passed o new bundle first putter hold))
          (sound.runs p);
    }

-- one more bundle is cut off what is left
first_bundles-push : (items now bundle : List Item) (bundles : List Bundle) (first : IsFirstBundle now bundle)
    → AreFirstBundles items bundles now → AreFirstBundles items (bundles ++ bundle ∷ []) first.rest
first_bundles-push items now bundle [] first cut = (
  record { rest = first.rest; is = cut ∙ first.is; longest = first.longest },
  refl,
)
first_bundles-push items now bundle (b ∷ bundles) first cut =
    (cut.0, first_bundles-push cut.0.rest now bundle bundles first cut.1)

-- the first bundle was put behind others
pub bundles_passed : (first old new : Outlet) (bundle : List Item)
    → HasPutBundles first.hold.items old.hold.items first old
    → IsFirstBundle old.hold.items bundle
    → new.putter ≡ record old.putter { messages = old.putter.messages ++ bundle ∷ []; put = old.putter.put ++ bundle }
    → new.hold ≡ record old.hold { items = drop (length bundle) old.hold.items }
    → HasPutBundles first.hold.items new.hold.items first new
bundles_passed first old new bundle has is putter hold = (
  has.0 ++ bundle ∷ [],
  ap (λ (e : PutEnd Bundle Item). e.messages) putter ∙ ap (λ bundles. bundles ++ bundle ∷ []) has.1
      ∙ append_assoc first.putter.messages has.0 (bundle ∷ []),
  subst (AreFirstBundles first.hold.items (has.0 ++ bundle ∷ []))
      (sym (ap (λ (h : Held). h.items) hold ∙ rest_of old.hold.items bundle is))
      (first_bundles-push first.hold.items old.hold.items bundle has.0 is has.2),
)

pub held_fewer : (old new : Held) (bundle : List Item) → IsFirstBundle old.items bundle → 0 < length bundle
    → new ≡ record old { items = drop (length bundle) old.items } → length new.items < length old.items
held_fewer old new bundle first some rest =
    omega (
      arith,
      some,
      ap (λ (h : Held). length h.items) rest,
      ap length (rest_of old.items bundle first),
      ap length first.is,
      length-append bundle first.rest,
    )

pub none_held : (items : List Item) → slice_get items 0 ≡ None → items ≡ []
none_held [] none = refl
none_held (x ∷ xs) none = cc

pub is_none : {A : Type 0} (o : Option A) → is_some o ≡ false → o ≡ None
is_none None none = refl
is_none (Some x) none = cc

pub if_none : {A : Type 0} (X : Type 0) (o : Option A) → o ≡ None → IfNone o X → X
if_none X None none given = given
if_none X (Some x) none given = cc

pub unless_err : {T E : Type 0} (X : Type 0) (r : Result T E) → (IsErr r → ⊥) → OnOk r X → X
unless_err X (Ok x) not_err given = given
unless_err X (Err e) not_err given = absurd (not_err (search rules))

-- an outlet whose lane is cut has what it had
pub sound_same : (o new : Outlet) → IsSound o → new.putter ≡ o.putter → new.hold ≡ o.hold → IsSound new
sound_same o new sound putter hold =
    let P : PutEnd Bundle Item × Held → Type 0 = λ v. (0 < v.1.room) × All (λ (i : Item). set.contains v.0.members
    i.from ≡ true) v.1.items × ((p : ℕ) → AreItemsInSequence (items_of p (v.0.put ++ v.1.items))) in
    let both = subst P (λ i. (sym putter i, sym hold i)) (sound.room, sound.owned, sound.runs) in
    record { room = both.0; owned = both.1; runs = both.2 }

-- an item is taken in
pub sound_taken : (o new : Outlet) (item : Item) → IsSound o → set.contains o.putter.members item.from ≡ true
    → IsNextItem (handed o) item
    → new.putter ≡ o.putter → new.hold ≡ record o.hold { items = o.hold.items ++ item ∷ [] } → IsSound new
sound_taken o new item sound own next putter hold =
    let more : List Item = o.hold.items ++ item ∷ [] in
    let whole : handed new ≡ handed o ++ item ∷ [] = (λ i. (putter i).put ++ (hold i).items)
    ∙ sym (append_assoc o.putter.put o.hold.items (item ∷ [])) in
    let split : (p : ℕ) → items_of p (handed new) ≡ items_of p (handed o) ++ items_of p (item ∷ []) =
    λ p. ap (items_of p) whole ∙ items_of-append p (handed o) (item ∷ []) in
    record {
      room = subst (λ n. 0 < n) (sym (ap (λ (h : Held). h.room) hold)) sound.room;
      owned = subst (λ m. All (λ (i : Item). set.contains m i.from ≡ true) new.hold.items)
          (sym (ap (λ (e : PutEnd Bundle Item). e.members) putter))
          (subst (All (λ (i : Item). set.contains o.putter.members i.from ≡ true))
          (sym (ap (λ (h : Held). h.items) hold))
          (All-push (λ (i : Item). set.contains o.putter.members i.from ≡ true) o.hold.items item sound.owned own));
      runs = λ p. ⊎_elim
          (λ (here : p ≡ item.from).
          subst AreItemsInSequence
          (sym (split p ∙ ap (λ xs. items_of p (handed o) ++ xs) (items_of-own p item (sym here))))
          (AreInSequence-push (λ (i : Item). place_of i.note) (λ (i : Item). is_last i.note)
          (items_of p (handed o)) item (sound.runs p) (subst (λ q. IsNext (λ (i : Item). place_of i.note)
          (λ (i : Item). is_last i.note) (items_of q (handed o)) item) (sym here) next)))
          (λ (apart : p ≢ item.from).
          subst AreItemsInSequence (sym (split p ∙ ap (λ xs. items_of p (handed o) ++ xs)
          (items_of-other p item (λ e. apart (sym e))) ∙ append-nil (items_of p (handed o)))) (sound.runs p))
          (cases_eq p item.from);
    }
