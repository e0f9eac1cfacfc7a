use Rattle.wcp_world.proofs.Words.{◌≡◌, ℕ, ◌+◌, ◌<◌, ◌⊎◌, Bool, true, false, cond, length, take, count_by, Some, List}
use Rattle.wcp_world.proofs.Words.{[], ◌∷◌, ◌++◌, slice_get, filter, map, refl, sym, ap, subst, ◌∙◌, ⊎_elim, append-nil}
use Rattle.wcp_world.proofs.Words.{arith, eqb, Option, ap₂, append_assoc, ne_eqb, length-append, map-append}
use Rattle.wcp_world.proofs.Words.{take-append-le, take_at, filter-append, sum_by_push, slice_get_within, Item, Note}
use Rattle.wcp_world.proofs.Words.{Plan, Step, Place, source, takes_from, puts_into, taken_from, next_place, IsEntry}
use Rattle.wcp_world.proofs.Words.{Emitted, Moved, Pending, Link, InboxOf, is_place, notes_taken, get_front, get_behind}
use Rattle.wcp_world.proofs.Words.{at_grows, get_push, Held, IsHeldAt, TransportState, IsPlaceOf, IsWay, place_number}
use Rattle.wcp_world.proofs.Words.{held_at, notes_along, notes_at, IsTransportOf, common_steps, Root}
use Rattle.wcp_world.proofs.Words.{get_or_from_slice_get, eq-eqb, true≢false, room_of, ◌≤◌, cases_Bool}
use Rattle.wcp_world.proofs.Words.{false_from_ne_true, or-false, list_any-append, list_any_at, ◌||◌, inl, inr}
use Rattle.wcp_world.proofs.Words.{is_drop_of, is_dropped, Vanished, entered, Dropped, marks_in, given, HoldOf}
use Rattle.wcp_world.proofs.Places.{IsOnWay, Start, Onward, next_is_place, one_before}

abbrev pub bit : Bool → ℕ
bit b = cond b 1 0

-- the item, if so
abbrev pub item_if : Bool → Item → List Item
item_if b item = cond b (item ∷ []) []

pub length_if : (b : Bool) (item : Item) → length (item_if b item) ≡ bit b
length_if b item = grind arith

get_behind_if : (b : Bool) (items : List Item) (item y : Item) (i : ℕ) → slice_get (items ++ item_if b item) i ≡ Some y
    → (slice_get items i ≡ Some y) ⊎ ((b ≡ true) × (i ≡ length items) × (item ≡ y))
get_behind_if b items item y i at = grind (arith, get_push, append-nil)

-- a count over one more step
pub count_push : (test : Step → Bool) (steps : List Step) (s : Step)
    → count_by test (steps ++ s ∷ []) ≡ count_by test steps + bit (test s)
count_push test steps s = sum_by_push (λ x. cond (test x) 1 0) steps s

-- the notes of a process among more items
pub notes_append : (p : ℕ) (items more : List Item)
    → notes_taken p (items ++ more) ≡ notes_taken p items ++ notes_taken p more
notes_append p items more = ap (map (λ (item : Item). item.note)) (filter-append _ items more)
    ∙ map-append (λ (item : Item). item.note) (filter _ items) (filter _ more)

-- an entry is on the way of its process
pub entry_on_way : (plan : Plan) (emissions : ℕ → List Note) (steps : List Step) {x : Place} {i : ℕ} {item : Item}
    → IsEntry plan emissions steps x i item → IsOnWay plan item.from x
entry_on_way plan emissions steps (Emitted at) = Start
entry_on_way plan emissions steps (Vanished drop) = Onward Start refl
entry_on_way plan emissions steps (Moved entry move) = Onward (entry_on_way plan emissions steps entry) move.puts

-- a drop that stands among steps drops its process
drop_drops : (steps : List Step) (at p : ℕ) → slice_get steps at ≡ Some (Dropped p) → is_dropped steps p ≡ true
drop_drops steps at p there =
    list_any_at (is_drop_of p) steps at (Dropped p) (slice_get_within steps at (Dropped p) there)
    (ap (is_drop_of p) (get_or_from_slice_get steps at (Dropped p) (Dropped p) there) ∙ eq-eqb p p refl)

-- one more step drops its own process
pub dropped_push : (steps : List Step) (s : Step) (p : ℕ)
    → is_dropped (steps ++ s ∷ []) p ≡ (is_dropped steps p || is_drop_of p s)
dropped_push steps s p = list_any-append (is_drop_of p) steps (s ∷ [])
    ∙ ap (λ b. is_dropped steps p || b) (or-false (is_drop_of p s))

-- a step that takes a note drops no process
pub no_drop : (steps : List Step) (s : Step) (from : Place) (p : ℕ) → source s ≡ Some from
    → is_dropped (steps ++ s ∷ []) p ≡ is_dropped steps p
no_drop steps s from p takes = grind (arith, dropped_push steps s p, or-false)

-- the process of an entry is one that has emissions or was dropped
pub entry_process : (plan : Plan) (emissions : ℕ → List Note) (steps : List Step) → ((p i : ℕ) (note : Note)
    → slice_get (emissions p) i ≡ Some note → p < plan.n) → ((p : ℕ) → is_dropped steps p ≡ true → p < plan.n) →
    {x : Place} {i : ℕ} {item : Item} → IsEntry plan emissions steps x i item → item.from < plan.n
entry_process plan emissions steps emitted lost (Emitted {p = p} {i = i} {note = note} at) = emitted p i note at
entry_process plan emissions steps emitted lost (Vanished {p = p} drop) = lost p (drop_drops steps drop.at p drop.there)
entry_process plan emissions steps emitted lost (Moved entry move) =
    entry_process plan emissions steps emitted lost entry

-- entries stay as emissions and steps grow
pub entry_grows : (plan : Plan) (emissions grown : ℕ → List Note) (steps more : List Step)
    → ((p i : ℕ) (note : Note) → slice_get (emissions p) i ≡ Some note → slice_get (grown p) i ≡ Some note) →
    {x : Place} {i : ℕ} {item : Item} → IsEntry plan emissions steps x i item
    → IsEntry plan grown (steps ++ more) x i item
entry_grows plan emissions grown steps more grow (Emitted {p = p} {i = i} {note = note} at) = Emitted (grow p i note at)
entry_grows plan emissions grown steps more grow (Vanished {p = p} {k = k} drop) =
    let front : take drop.at (steps ++ more) ≡ take drop.at steps = take-append-le drop.at steps more
    (let inside = slice_get_within steps drop.at (Dropped p) drop.there in omega (arith, inside)) in
    Vanished (grind (arith, at_grows))
entry_grows plan emissions grown steps more grow (Moved {from = from} {to = to} entry move) =
    let front : take move.at (steps ++ more) ≡ take move.at steps = take-append-le move.at steps more
    (let inside = slice_get_within steps move.at move.step move.there in omega (arith, inside)) in
    Moved (entry_grows plan emissions grown steps more grow entry) (grind (arith, at_grows))

-- what a step takes enters the next place behind what entered it before
pub entry_moves : (plan : Plan) (emissions : ℕ → List Note) (steps : List Step) (s : Step) (from to : Place)
    (item : Item) → source s ≡ Some from → next_place plan from ≡ Some to →
    IsEntry plan emissions (steps ++ s ∷ []) from (taken_from steps from) item
    → IsEntry plan emissions (steps ++ s ∷ []) to (count_by (puts_into plan to) steps) item
entry_moves plan emissions steps s from to item takes puts entry =
    let front : take (length steps) (steps ++ s ∷ []) ≡ steps = take_at steps (s ∷ []) (length steps) refl in
    Moved entry (grind (arith, get_behind))

-- what a step that moves this item does to a place
pub record IsStirred (plan : Plan) (s : Step) (item : Item) (x : Place) (old new : Held) : Type 0 where
  pub items : item_if (takes_from x s) item ++ new.items ≡ old.items ++ item_if (puts_into plan x s) item
  pub room : new.room ≡ old.room
  pub fits : puts_into plan x s ≡ true → length old.items < room_of plan x + marks_in (s ∷ []) x

pub stays : (plan : Plan) (s : Step) (item : Item) (x : Place) (held : Held) → takes_from x s ≡ false
    → puts_into plan x s ≡ false → IsStirred plan s item x held held
stays plan s item x held takes puts = grind (arith, append-nil held.items)

-- the marks of lost processes in a place are those of steps and of one more
marks_grow : (steps : List Step) (s : Step) (x : Place)
    → (marks_in steps x ≤ marks_in (steps ++ s ∷ []) x) × (marks_in (s ∷ []) x ≤ marks_in (steps ++ s ∷ []) x)
marks_grow steps s (Link p) = rw (dropped_push steps s p) (grind (arith, or-false))
marks_grow steps s (Pending p) = grind arith
marks_grow steps s (HoldOf relay) = grind arith
marks_grow steps s (InboxOf owner) = grind arith

pub held_after : (plan : Plan) (steps : List Step) (s : Step) (put more : ℕ → List Note) (item : Item) (x : Place)
    (old new : Held) →
    ((p i : ℕ) (note : Note) → slice_get (put p) i ≡ Some note → slice_get (more p) i ≡ Some note) →
    (puts_into plan x s ≡ true → IsEntry plan more (steps ++ s ∷ []) x (count_by (puts_into plan x) steps) item) →
    IsStirred plan s item x old new → IsHeldAt plan steps put x old → IsHeldAt plan (steps ++ s ∷ []) more x new
held_after plan steps s put more item x old new grow entry stirred is = record {
  room = stirred.room ∙ is.room;
  within = ⊎_elim (λ (puts : puts_into plan x s ≡ true).
      omega (arith, stirred.fits puts, lengths, ap bit puts, marks_grow steps s x))
      (λ (none : puts_into plan x s ≡ false). omega (arith, is.within, lengths, ap bit none, marks_grow steps s x))
      (cases_Bool (puts_into plan x s));
  count = omega (arith, lengths, is.count, count_push (takes_from x) steps s, count_push (puts_into plan x) steps s);
  entries = λ i y at.
      let there : slice_get (old.items ++ item_if (puts_into plan x s) item) (bit (takes_from x s) + i) ≡ Some y =
      grind arith in
      ⊎_elim
      (λ (old_one : slice_get old.items (bit (takes_from x s) + i) ≡ Some y).
      subst (λ k. IsEntry plan more (steps ++ s ∷ []) x k y) (omega (arith, count_push (takes_from x) steps s))
      (entry_grows plan put more steps (s ∷ []) grow (is.entries _ y old_one)))
      (λ (new_one : (puts_into plan x s ≡ true) × (bit (takes_from x s) + i ≡ length old.items) × (item ≡ y)).
      rw (← new_one.2) (subst (λ k. IsEntry plan more (steps ++ s ∷ []) x k item)
      (omega (arith, new_one.1, is.count, count_push (takes_from x) steps s)) (entry new_one.0)))
      (get_behind_if (puts_into plan x s) old.items item y (bit (takes_from x s) + i) there);
}
  where
    lengths : bit (takes_from x s) + length new.items ≡ length old.items + bit (puts_into plan x s)
    lengths = omega (
      arith,
      ap length stirred.items,
      length-append (item_if (takes_from x s) item) new.items,
      length-append old.items (item_if (puts_into plan x s) item),
      length_if (takes_from x s) item,
      length_if (puts_into plan x s) item,
    )

is_that : (x : Place) (o : Option Place) → is_place x o ≡ true → o ≡ Some x
is_that x o same = grind arith

-- what is not of a process has no note of it
none_of : (p : ℕ) (item : Item) (b : Bool) → eqb item.from p ≡ false → notes_taken p (item_if b item) ≡ []
none_of p item b other = grind arith

one_of : (p : ℕ) (item : Item) (b : Bool) → (b ≡ true → item.from ≡ p) → length (notes_taken p (item_if b item)) ≡ bit b
one_of p item b own = grind arith

pub get_grows : {X : Type 0} (xs ys : List X) (i : ℕ) (x : X) → slice_get xs i ≡ Some x
    → slice_get (xs ++ ys) i ≡ Some x
get_grows xs ys i x at = get_front xs ys i (slice_get_within xs i x at) ∙ at

-- what a step that moves this item takes of a process out of a place, and what it brings there
abbrev pub gone_from : Step → Item → ℕ → Place → List Note
gone_from s item p x = notes_taken p (item_if (takes_from x s) item)

abbrev pub come_to : Plan → Step → Item → ℕ → Place → List Note
come_to plan s item p x = notes_taken p (item_if (puts_into plan x s) item)

module _ (plan : Plan) (steps : List Step) (put : ℕ → List Note) (taken : List Item) (t : TransportState)
    (stands : IsTransportOf plan steps put taken t)
    (s : Step) (item : Item) (more : ℕ → List Note) (places : List Held) (process : item.from < plan.n)
    (own : (p : ℕ) → takes_from (Pending p) s ≡ true → item.from ≡ p)
    (enters : (x : Place) → puts_into plan x s ≡ true
    → IsEntry plan more (steps ++ s ∷ []) x (count_by (puts_into plan x) steps) item)
    (stirred : (x : Place) → IsPlaceOf plan x
    → IsStirred plan s item x (held_at t.places (place_number plan x)) (held_at places (place_number plan x)))
    (passes_on : (p : ℕ) (x y : Place) → IsPlaceOf plan x → IsOnWay plan p x → next_place plan x ≡ Some y
    → come_to plan s item p y ≡ gone_from s item p x)
    (more_is : (p : ℕ) → more p ≡ put p ++ gone_from s item p (Pending p))
    (given_is : (p : ℕ) → given (steps ++ s ∷ []) p (more p) ≡ given steps p (put p) ++ come_to plan s item p (Link p))
    (lost : (p : ℕ) → is_dropped (steps ++ s ∷ []) p ≡ true → p < plan.n)
    (members : length places ≡ length t.places) where
  at_place : (p : ℕ) (x : Place) → IsPlaceOf plan x
      → gone_from s item p x ++ notes_at plan places p x ≡ notes_at plan t.places p x ++ come_to plan s item p x
  at_place p x is = grind (arith, common_steps)

  -- along a way, what comes to its first place is behind what was there, and what leaves its last was the first
  along_way : (p : ℕ) (x : Place) (way : List Place) → IsWay plan x way → IsOnWay plan p x → IsPlaceOf plan x →
      gone_from s item p (InboxOf Root) ++ notes_along (notes_at plan places p) (x ∷ way) ≡ notes_along
      (notes_at plan t.places p) (x ∷ way) ++ come_to plan s item p x
  along_way p x [] is_way on is = subst (λ y. gone_from s item p y ++ notes_at plan places p x
      ≡ notes_at plan t.places p x ++ come_to plan s item p x) is_way (at_place p x is)
  along_way p x (y ∷ way) is_way on is =
      let rest = along_way p y way is_way.1 (Onward on is_way.0) (next_is_place plan stands.checked x y is_way.0 is) in
      let here = at_place p x is in
      let onward = passes_on p x y is on is_way.0 in
      let old = notes_along (notes_at plan t.places p) (y ∷ way) in
      sym (append_assoc (gone_from s item p (InboxOf Root)) (notes_along (notes_at plan places p) (y ∷ way))
      (notes_at plan places p x)) ∙ ap (λ l. l ++ notes_at plan places p x) (rest ∙ ap (λ l. old ++ l) onward)
      ∙ append_assoc old (gone_from s item p x) (notes_at plan places p x) ∙ ap (λ l. old ++ l) here
      ∙ sym (append_assoc old (notes_at plan t.places p x) (come_to plan s item p x))

  pub stirred_after : IsTransportOf plan (steps ++ s ∷ []) more (taken ++ item_if (takes_from (InboxOf Root) s) item)
      (record t { places = places })
  stirred_after = record {
    checked = stands.checked;
    same_plan = stands.same_plan;
    members = members ∙ stands.members;
    held = λ x is. held_after plan steps s put more item x _ _ (λ p i note at. ap (λ l. slice_get l i) (more_is p)
        ∙ get_grows (put p) _ i note at) (enters x) (stirred x is) (stands.held x is);
    as_many = λ p. omega (
      arith,
      ap length (more_is p),
      length-append (put p) (gone_from s item p (Pending p)),
      one_of p item (takes_from (Pending p) s) (own p),
      stands.as_many p,
      count_push (takes_from (Pending p)) steps s,
    );
    known = λ p beyond. more_is p ∙ ap₂ (λ a b. a ++ b) (stands.known p beyond)
        (none_of p item (takes_from (Pending p) s) (ne_eqb item.from p (λ e. omega (arith, process, beyond, e))));
    lost_known = lost;
    in_order = λ p in_range.
        let order = stands.in_order p in_range in
        let root = gone_from s item p (InboxOf Root) in
        let link = along_way p (Link p) order.way order.is_way (Onward Start refl) in_range in
        let given_now = given_is p in
        record {
          way = order.way;
          is_way = order.is_way;
          notes = grind (arith, append_assoc, notes_append);
        };
  }

module _ (plan : Plan) (steps : List Step) (put : ℕ → List Note) (taken : List Item) (t : TransportState)
    (stands : IsTransportOf plan steps put taken t)
    (s : Step) (from : Place) (item : Item) (more : ℕ → List Note) (places : List Held)
    (takes : source s ≡ Some from) (process : item.from < plan.n)
    (own : (p : ℕ) → takes_from (Pending p) s ≡ true → item.from ≡ p)
    (live : (p : ℕ) → takes_from (Pending p) s ≡ true → is_dropped steps p ≡ false)
    (entry : IsEntry plan more (steps ++ s ∷ []) from (taken_from steps from) item)
    (stirred : (x : Place) → IsPlaceOf plan x
    → IsStirred plan s item x (held_at t.places (place_number plan x)) (held_at places (place_number plan x)))
    (more_is : (p : ℕ) → more p ≡ put p ++ gone_from s item p (Pending p))
    (members : length places ≡ length t.places) where
  entered_is : (s : Step) → source s ≡ Some from → entered plan s ≡ next_place plan from
  entered_is s takes = grind arith

  enters : (x : Place) → puts_into plan x s ≡ true
      → IsEntry plan more (steps ++ s ∷ []) x (count_by (puts_into plan x) steps) item
  enters x puts =
      entry_moves plan more steps s from x item takes (sym (entered_is s takes) ∙ is_that x (entered plan s) puts) entry

  -- what leaves a place on the way of its process comes to the next
  passes_on : (p : ℕ) (x y : Place) → IsOnWay plan p x → next_place plan x ≡ Some y
      → come_to plan s item p y ≡ gone_from s item p x
  passes_on p x y on next = let to = entered_is s takes in grind (arith, ne_eqb, entry_on_way, one_before)

  given_is : (p : ℕ) → given (steps ++ s ∷ []) p (more p) ≡ given steps p (put p) ++ come_to plan s item p (Link p)
  given_is p = rw (passes_on p (Pending p) (Link p) Start refl, no_drop steps s from p takes, more_is p)
      (by_case (cases_Bool (is_dropped steps p)))
    where
      by_case : (is_dropped steps p ≡ true) ⊎ (is_dropped steps p ≡ false) → given steps p
          (put p ++ gone_from s item p (Pending p)) ≡ given steps p (put p) ++ gone_from s item p (Pending p)
      by_case (inl dropped) = let none : takes_from (Pending p) s ≡ false =
          false_from_ne_true (takes_from (Pending p) s) (λ yes. true≢false (sym dropped ∙ live p yes)) in
          rw (none, append-nil (put p)) (sym (append-nil (given steps p (put p))))
      by_case (inr not_dropped) =
          rw (not_dropped, append-nil (put p)) (append-nil (put p ++ gone_from s item p (Pending p)))

  pub transport_after : IsTransportOf plan (steps ++ s ∷ []) more (taken ++ item_if (takes_from (InboxOf Root) s) item)
      (record t { places = places })
  transport_after = stirred_after plan steps put taken t stands s item more places process own enters stirred
      (λ p x y is on next. passes_on p x y on next) more_is given_is
      (λ p dropped. stands.lost_known p (sym (no_drop steps s from p takes) ∙ dropped)) members
