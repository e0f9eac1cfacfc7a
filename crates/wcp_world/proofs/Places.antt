use Rattle.wcp_world.proofs.Words.{◌≡◌, ◌≢◌, ◌+◌, ◌<◌, true, false, length, Some, arith, ℕ, zero, suc, ◌*◌, ◌≤◌, get_or}
use Rattle.wcp_world.proofs.Words.{Option, List, [], ◌∷◌, refl, ap, ◌∙◌, ⊎_elim, ◌++◌, replicate, ap₂, Plan, Place}
use Rattle.wcp_world.proofs.Words.{is_same_place, next_place, Pending, Link, HoldOf, InboxOf, size_of, few_processes}
use Rattle.wcp_world.proofs.Words.{some_watched, capacity, hold_room, parent_below, attached_exists, has_leaf}
use Rattle.wcp_world.proofs.Words.{IsPlaceOf, place_number, IsWay, TransportState, IsTransportOf, held_at, notes_at}
use Rattle.wcp_world.proofs.Words.{notes_along, option_and_then, false_from_ne_true, cases_lt, cases_order}
use Rattle.wcp_world.proofs.Words.{slice_get-get_or, option_and_then_some, Parent, Root, Relay, leaf_of, parent_of}
use Rattle.wcp_world.proofs.Words.{IsSamePlan, length-append, length-replicate, get_or-replicate, get_or_append_left}
use Rattle.wcp_world.proofs.Words.{get_or-append_right, Held, empty_hold}
use Rattle.wcp_model.specs.PlanFault.{IsCheckedPlan}

pub same_place : (x y : Place) → is_same_place x y ≡ true → x ≡ y
same_place x y same = grind arith

pub itself : (x : Place) → is_same_place x x ≡ true
itself x = grind arith

-- places that are two have two numbers
pub number_apart : (plan : Plan) (x y : Place) → IsPlaceOf plan x → IsPlaceOf plan y → is_same_place x y ≡ false
    → place_number plan x ≢ place_number plan y
number_apart plan x y is_x is_y apart = grind arith

-- each place has its number among them
pub number_within : (plan : Plan) (x : Place) → IsPlaceOf plan x
    → place_number plan x < plan.n + length plan.parents.items + 1 + length plan.parents.items
number_within plan x is_x = grind arith

module _ (plan : Plan) (checked : IsCheckedPlan plan) where
  -- the place after a place is a place
  pub next_is_place : (x y : Place) → next_place plan x ≡ Some y → IsPlaceOf plan x → IsPlaceOf plan y
  next_is_place x y next is = grind (arith, attached_exists, parent_below)

-- what the numbers of a checked plan are within
pub ruleset plan_limits = (few_processes, some_watched, capacity, hold_room)

-- a place on the way of a process to the checker
pub data IsOnWay (plan : Plan) (p : ℕ) : Place → Type 0 where
  Start : IsOnWay plan p (Pending p)
  Onward : {x y : Place} → IsOnWay plan p x → next_place plan x ≡ Some y → IsOnWay plan p y

-- how far a place is from the checker, at least
abbrev pub distance : Plan → Place → ℕ
distance plan (Pending p) = 2 * length plan.parents.items + 4
distance plan (Link p) = 2 * length plan.parents.items + 3
distance plan (HoldOf relay) = 2 * relay + 1
distance plan (InboxOf Root) = 0
distance plan (InboxOf (Relay relay)) = 2 * relay + 2

module _ (plan : Plan) (checked : IsCheckedPlan plan) where
  pub nearer : (x y : Place) → next_place plan x ≡ Some y → distance plan y < distance plan x
  nearer x y next = grind (arith, attached_exists, parent_below)

  pub next_apart : (x y : Place) → next_place plan x ≡ Some y → is_same_place x y ≡ false
  next_apart x y next = false_from_ne_true (is_same_place x y)
      (λ same. omega (arith, nearer x y next, ap (distance plan) (same_place x y same)))

  -- the place that so many steps lead to
  abbrev after : ℕ → ℕ → Option Place
  after p zero = Some (Pending p)
  after p (suc k) = option_and_then (next_place plan) (after p k)

  steps_to : (p : ℕ) {x : Place} → IsOnWay plan p x → (k : ℕ) × (after p k ≡ Some x)
  steps_to p Start = (0, refl)
  steps_to p (Onward on next) = let before = steps_to p on in
      (suc before.0, ap (option_and_then (next_place plan)) before.1 ∙ next)

  nearer_later : (p k l : ℕ) (x y : Place) → k < l → after p k ≡ Some x → after p l ≡ Some y
      → distance plan y < distance plan x
  nearer_later p k zero x y less at_x at_y = absurd (omega (arith, less))
  nearer_later p k (suc l) x y less at_x at_y =
      option_and_then_some (next_place plan) (after p l) y at_y (λ z at_z next. ⊎_elim
      (λ (more : k < l). omega (arith, nearer_later p k l x z more at_x at_z, nearer z y next))
      (λ (last : l ≤ k). let now : k ≡ l = omega arith in let same : x ≡ z = cc (at_x, at_z, ap (after p) now) in
      omega (arith, nearer z y next, ap (distance plan) same))
      (cases_lt k l))

  -- on one way, a place follows one place alone
  pub one_before : (p : ℕ) (x y z : Place) → IsOnWay plan p x → IsOnWay plan p y → next_place plan x ≡ Some z
      → next_place plan y ≡ Some z → x ≡ y
  one_before p x y z on_x on_y next_x next_y =
      let (k, at_x) = steps_to p on_x in
      let (l, at_y) = steps_to p on_y in
      let by_x : after p (suc k) ≡ Some z = ap (option_and_then (next_place plan)) at_x ∙ next_x in
      let by_y : after p (suc l) ≡ Some z = ap (option_and_then (next_place plan)) at_y ∙ next_y in
      ⊎_elim (λ (same : k ≡ l). cc (at_x, at_y, ap (after p) same))
      (grind (arith, nearer_later p (suc k) (suc l) z z, nearer_later p (suc l) (suc k) z z)) (cases_order k l)

  -- from each hold there is a way
  way_from_hold : (bound relay : ℕ) → relay < bound → relay < length plan.parents.items
      → (way : List Place) × IsWay plan (HoldOf relay) way
  way_from_hold zero relay below is = absurd (omega (arith, below))
  way_from_hold (suc bound) relay below is =
      onward (way_from_hold bound) (get_or plan.parents.items relay Root)
      (slice_get-get_or plan.parents.items relay Root is)
    where
      onward : ((above : ℕ) → above < bound → above < length plan.parents.items → (way : List Place)
          × IsWay plan (HoldOf above) way) →
          (owner : Parent) → parent_of plan relay ≡ Some owner → (way : List Place) × IsWay plan (HoldOf relay) way
      onward lower_ways Root at = (InboxOf Root ∷ [], rw at (refl, refl))
      onward lower_ways (Relay above) at =
          let lower : above < relay = parent_below plan checked relay above at in
          let rest = lower_ways above (omega (arith, below, lower)) (omega (arith, is, lower)) in
          (InboxOf (Relay above) ∷ HoldOf above ∷ rest.0, rw at (refl, (refl, rest.1)))

  -- and from each link
  pub way_of : (p relay : ℕ) → leaf_of plan p ≡ Some relay → (way : List Place) × IsWay plan (Link p) way
  way_of p relay at =
      let onward = way_from_hold (relay + 1) relay (omega arith) (attached_exists plan checked p relay at).1 in
      (HoldOf relay ∷ onward.0, rw at (refl, onward.1))

module _ (plan : Plan) where
  abbrev links : List Held
  links = replicate plan.n (empty_hold (plan.cap + 1))

  abbrev holds : List Held
  holds = replicate (length plan.parents.items) (empty_hold plan.hold)

  abbrev inboxes : List Held
  inboxes = replicate (length plan.parents.items + 1) (empty_hold plan.cap)

  abbrev pub first_places : List Held
  first_places = (links ++ holds) ++ inboxes

  length_front : length (links ++ holds) ≡ plan.n + length plan.parents.items
  length_front = omega (
    arith,
    length-append links holds,
    length-replicate plan.n (empty_hold (plan.cap + 1)),
    length-replicate (length plan.parents.items) (empty_hold plan.hold),
  )

  length_all : length first_places ≡ plan.n + length plan.parents.items + 1 + length plan.parents.items
  length_all = omega (
    arith,
    length_front,
    length-append (links ++ holds) inboxes,
    length-replicate (length plan.parents.items + 1) (empty_hold plan.cap),
  )

  -- each place is empty, with its size
  place_is_empty : (x : Place) (default : Held) → IsPlaceOf plan x
      → get_or first_places (place_number plan x) default ≡ empty_hold (size_of plan x)
  place_is_empty x default is =
      grind (arith, get_or-append_right, get_or-replicate, get_or_append_left, length-replicate, length_front)

  none_along : IsCheckedPlan plan → (p : ℕ) (x : Place) (way : List Place) → IsWay plan x way → IsPlaceOf plan x
      → notes_along (notes_at plan first_places p) (x ∷ way) ≡ []
  none_along checked p x [] is_way is = rw (place_is_empty x _ is) refl
  none_along checked p x (y ∷ way) is_way is = ap₂ (λ a b. a ++ b) (none_along checked p y way is_way.1
      (next_is_place plan checked x y is_way.0 is)) (rw (place_is_empty x _ is) refl)

  -- the transport of a plan stands for nothing at first
  pub fresh_stands : (t : TransportState) → IsCheckedPlan plan → IsSamePlan t.plan plan → t.places ≡ first_places
      → IsTransportOf plan [] (λ p. []) [] t
  fresh_stands t checked same places_are = record {
    checked = checked;
    same_plan = same;
    members = ap length places_are ∙ length_all;
    held = λ x is. rw (ap (λ l. held_at l (place_number plan x)) places_are ∙ place_is_empty x _ is)
        (record { room = refl; within = omega arith; count = refl; entries = λ i item at. cc at });
    as_many = λ p. refl;
    known = λ p beyond. refl;
    lost_known = λ p dropped. cc dropped;
    in_order = λ p in_range.
        let leaf = has_leaf plan checked p in_range in
        let way = way_of plan checked p leaf.0 leaf.1 in
        record {
          way = way.0;
          is_way = way.1;
          notes = ap (λ l. notes_along (notes_at plan l p) (Link p ∷ way.0))
              places_are ∙ none_along checked p (Link p) way.0 way.1 in_range;
        };
  }
