-- Items that may follow others, one after another.
use Rattle.wcp_relay.proofs.Words.{◌≡◌, ℕ, zero, suc, ◌+◌, ◌<◌, true, List, [], ◌∷◌, ◌++◌, length, get_or, take, Option}
use Rattle.wcp_relay.proofs.Words.{None, Some, sym, refl, ap, ◌∙◌, subst, append_assoc, arith, IfNone, IfSome}
use Rattle.wcp_relay.proofs.Words.{append-nil, take_more, Item, place_of, is_last, Numbers, Outlet, items_of, handed}
use Rattle.wcp_relay.proofs.Words.{IsFaithful, IsNextAfter, IsSameOutlet, ItemsMayFollow}
use Rattle.std.specs.FinSet as set
use Rattle.wcp_lane.specs.Message.{MayFollow}
use Rattle.wcp_relay.proofs.Lists.{items_of-append}
use Rattle.wcp_relay.proofs.Faithful.{faithful_more, faithful_same, only_none}
use Rattle.wcp_relay.proofs.Passing.{if_none}

abbrev pub ItemMayFollow : Numbers → List Item → Item → Type 0
ItemMayFollow members before item =
    MayFollow (λ (i : Item). i.from) (λ (i : Item). place_of i.note) (λ (i : Item). is_last i.note) members before item

-- each of them may follow those before it
pub one_may_follow : (members : Numbers) (before items : List Item) (i : ℕ) (d : Item) → i < length items
    → ItemsMayFollow members before items
    → ItemMayFollow members (before ++ take i items) (get_or items i d)
one_may_follow members before [] i d below follow = absurd (omega arith)
one_may_follow members before (x ∷ xs) zero d below follow =
    subst (λ ys. ItemMayFollow members ys x) (sym (append-nil before)) follow.0
one_may_follow members before (x ∷ xs) (suc i) d below follow =
    subst (λ ys. ItemMayFollow members ys (get_or xs i d)) (append_assoc before (x ∷ []) (take i xs))
    (one_may_follow members (before ++ x ∷ []) xs i d (omega arith) follow.1)

-- what may follow these may follow others with the same items of each process, on a lane of more processes
pub follow_same : (members more : Numbers) (before other items : List Item)
    → ((p : ℕ) → set.contains members p ≡ true → set.contains more p ≡ true)
    → ((p : ℕ) → items_of p other ≡ items_of p before) → ItemsMayFollow members before items
    → ItemsMayFollow more other items
follow_same members more before other [] among same follow = tt
follow_same members more before other (x ∷ xs) among same follow = (
  record {
    owned = among x.from follow.0.owned;
    next = subst (λ ys. IsNextAfter ys x) (sym (same x.from)) follow.0.next;
  },
  follow_same members more (before ++ x ∷ []) (other ++ x ∷ []) xs among (λ p. items_of-append p other (x ∷ [])
      ∙ ap (λ ys. ys ++ items_of p (x ∷ [])) (same p) ∙ sym (items_of-append p before (x ∷ []))) follow.1,
)

-- they are of the processes
pub follow_owned : (members : Numbers) (before items front : List Item) (end : Item)
    → ItemsMayFollow members before items → items ≡ front ++ end ∷ [] → set.contains members end.from ≡ true
follow_owned members before items [] end follow is = (subst (ItemsMayFollow members before) is follow).0.owned
follow_owned members before items (x ∷ front) end follow is =
    follow_owned members (before ++ x ∷ []) (front ++ end ∷ []) front end
    (subst (ItemsMayFollow members before) is follow).1 refl

-- an item more of a bundle was taken in
pub handed_more : (first old new : Outlet) (items : List Item) (i : ℕ) (d : Item) → i < length items
    → IfNone old.cut ((first.cut ≡ None) × (handed old ≡ handed first ++ take i items))
    → IfNone new.cut ((old.cut ≡ None) × (handed new ≡ handed old ++ get_or items i d ∷ []))
    → IfNone new.cut ((first.cut ≡ None) × (handed new ≡ handed first ++ take (i + 1) items))
handed_more first old new items i d below before step =
    only_none _ new.cut (λ none.
    let one = if_none _ new.cut none step in
    let was = if_none _ old.cut one.0 before in (
      was.0,
      one.1 ∙ ap (λ xs. xs ++ get_or items i d ∷ []) was.1 ∙ append_assoc (handed first) (take i items) (get_or
          items i d ∷ []) ∙ ap (λ xs. handed first ++ xs) (sym (take_more items i d below)),
    ))

pub faithful_next : (taken : ℕ → List Item) (old new : Outlet) (items : List Item) (i : ℕ) (d : Item) → i < length items
    → IsFaithful (λ p. taken p ++ items_of p (take i items)) old
    → IfNone new.cut ((old.cut ≡ None) × (handed new ≡ handed old ++ get_or items i d ∷ []))
    → IfSome new.cut (λ cut. handed new ≡ handed old)
    → IsFaithful (λ p. taken p ++ items_of p (take (i + 1) items)) new
faithful_next taken old new items i d below faithful step let_go =
    faithful_more (λ p. taken p ++ items_of p (take i items)) (λ p. taken p ++ items_of p (take (i + 1) items)) old new
    (get_or items i d) faithful
    (λ p. ap (λ xs. taken p ++ items_of p xs) (take_more items i d below)
    ∙ ap (λ xs. taken p ++ xs) (items_of-append p (take i items) (get_or items i d ∷ []))
    ∙ sym (append_assoc (taken p) (items_of p (take i items)) (items_of p (get_or items i d ∷ []))))
    step let_go

pub faithful_first : (taken : ℕ → List Item) (outlet : Outlet) → IsFaithful taken outlet
    → IsFaithful (λ p. taken p ++ []) outlet
faithful_first taken outlet faithful =
    faithful_same taken (λ p. taken p ++ []) outlet outlet faithful (λ p. append-nil (taken p)) refl (λ none. none)

-- the item that is taken in next may follow what was handed on
pub next_may : (first now : Outlet) (items : List Item) (i : ℕ) (item : Item) → i < length items
    → item ≡ get_or items i item → IsSameOutlet first now
    → IfNone first.cut (ItemsMayFollow first.putter.members (handed first) items)
    → IfNone now.cut ((first.cut ≡ None) × (handed now ≡ handed first ++ take i items))
    → IfNone now.cut (ItemMayFollow now.putter.members (handed now) item)
next_may first now items i item below is same follow before =
    only_none _ now.cut (λ none.
    let was = if_none _ now.cut none before in
    let one =
    one_may_follow first.putter.members (handed first) items i item below (if_none _ first.cut was.0 follow) in
    let V : Type 0 = Numbers × List Item × Item in
    let to : V = (now.putter.members, handed now, item) in
    let from : V = (first.putter.members, handed first ++ take i items, get_or items i item) in
    let path : from ≡ to = λ j. (sym same.1 j, sym was.1 j, sym is j) in
    subst (λ (v : V). ItemMayFollow v.0 v.1 v.2) path one)

pub each_none : {A : Type 0} (X Y : Type 0) (o : Option A) → (X → Y) → IfNone o X → IfNone o Y
each_none X Y None f given = f given
each_none X Y (Some x) f given = tt
