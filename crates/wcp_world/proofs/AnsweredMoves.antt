use Rattle.wcp_world.proofs.Words.{common_steps, ◌≡◌, ◌≢◌, ℕ, ◌+◌, ◌<◌, Bool, true, false, not, cond, nat_le, nat_lt}
use Rattle.wcp_world.proofs.Words.{length, set, eqb, Option, None, Some, MatchOption, List, [], ◌∷◌, ◌++◌, slice_get}
use Rattle.wcp_world.proofs.Words.{drop, take, refl, sym, ap, ap₂, subst, ◌∙◌, append-nil, eqb-true, eq-eqb, add-zero}
use Rattle.wcp_world.proofs.Words.{true≢false, arith, option_and_then, option_flatten, option_map, nat_tests}
use Rattle.wcp_world.proofs.Words.{length-set, get_or-set_same, get_or-set_other, slice_get_cases, slice_get_within}
use Rattle.wcp_world.proofs.Words.{Item, Note, Parent, Root, Relay, Plan, Step, Done, Refused, IsSamePlan, is_number}
use Rattle.wcp_world.proofs.Words.{is_attached, is_leaf, leaf_of, parent_of, Place, Pending, Link, HoldOf, InboxOf}
use Rattle.wcp_world.proofs.Words.{is_same_place, source, target, takes_from, taken_from, notes_in, next_place, IsEntry}
use Rattle.wcp_world.proofs.Words.{Emitted, reasons, move_reasons, names_nothing, notes_taken, attached_exists}
use Rattle.wcp_world.proofs.Words.{get_behind, Held, IsAnswer, put_more, TransportState, IsPlaceOf, place_number}
use Rattle.wcp_world.proofs.Words.{held_at, IsTransportOf, IsNextAtRoot, IsMoveBetween, IsWayOf, is_relayed}
use Rattle.wcp_world.proofs.Words.{notes_along, IsShift, shift_reasons, KeepsIfRefused, Reply, Why, accepted_by}
use Rattle.wcp_world.proofs.Words.{first_reason, Vanished, Dropped, is_dropped, is_drop_of, marks_in, given, size_of}
use Rattle.wcp_world.proofs.Words.{room_of, count_by, cases_lt, or-false, inl, inr, ◌≤◌, take_at, cases_eq, ne_eqb}
use Rattle.wcp_world.proofs.Words.{puts_into, gets, Result, Ok, Err, ◌↔◌}
use Rattle.std.specs.List.{list_any}
use Rattle.std.specs.Prelude.{IsErr, OnOk}
use Rattle.std.proofs.lemmas.List.Sums.{sum_by-cons}
use Rattle.wcp_clock.specs.declared.note.Note.TheVariants as note
use Rattle.wcp_model.specs.declared.step.Step.TheVariants as step
use Rattle.wcp_model.specs.declared.step.Why.TheVariants as why
use Rattle.wcp_world.proofs.Places.{same_place, number_apart, number_within, next_is_place, itself, next_apart}
use Rattle.wcp_world.proofs.Entries.{item_if, IsStirred, entry_grows, entry_process, transport_after, stirred_after}
use Rattle.wcp_world.proofs.Entries.{no_drop, dropped_push, come_to}

-- what a place holds once one was changed
held_set : (plan : Plan) (places : List Held) (x y : Place) (new : Held) → length places
    ≡ plan.n + length plan.parents.items + 1 + length plan.parents.items → IsPlaceOf plan x → IsPlaceOf plan y →
    held_at (set places (place_number plan y) new) (place_number plan x) ≡ cond (is_same_place x y) new
    (held_at places (place_number plan x))
held_set plan places x y new members is_x is_y = grind (arith, get_or-set_other, get_or-set_same)

-- a list with a first element, and one without
pub with_first : {X : Type 0} (xs : List X) (x : X) → slice_get xs 0 ≡ Some x → xs ≡ x ∷ drop 1 xs
with_first xs x first = grind arith

pub without_first : {X : Type 0} (xs : List X) → slice_get xs 0 ≡ None → xs ≡ []
without_first [] none = refl
without_first (x ∷ xs) none = cc

-- two plans that are the same number their places alike
pub number_same : (a b : Plan) → IsSamePlan a b → (x : Place) → place_number a x ≡ place_number b x
number_same a b same x = grind arith

-- and they answer questions of the tree alike
pub attached_same : (a b : Plan) → IsSamePlan a b → (relay p : ℕ) → is_attached a relay p ≡ is_attached b relay p
attached_same a b same relay p = ap (λ l. is_number relay (option_flatten (slice_get l p))) same.attach

pub leaf_same : (a b : Plan) → IsSamePlan a b → (relay : ℕ) → is_leaf a relay ≡ is_leaf b relay
leaf_same a b same relay = ap₂ (λ n l. list_any (is_number relay) (take n l)) same.n same.attach

pub attached_is : (plan : Plan) (relay p : ℕ) → is_attached plan relay p ≡ true → leaf_of plan p ≡ Some relay
attached_is plan relay p = grind (arith, eqb-true)

-- a relay that has no parent isn't there
pub no_relay : (plan : Plan) (relay : ℕ) → parent_of plan relay ≡ None
    → nat_lt relay (length plan.parents.items) ≡ false
no_relay plan relay none = grind (arith, slice_get_cases)

-- what is pushed where there is room is there
pub pushed : {A E : Type 0} (result : Result A E) (full there : Type 0) → (IsErr result ↔ full) → (full → ⊥)
    → OnOk result there → there
pushed (Ok x) full there refused none ok = ok
pushed (Err e) full there refused none ok = grind arith

-- the place after a place has its room alone, and gets no mark
no_link : (plan : Plan) (steps : List Step) (from to : Place) → IsPlaceOf plan from → next_place plan from ≡ Some to
    → (size_of plan to ≡ room_of plan to) × (marks_in steps to ≡ 0)
no_link plan steps (Pending p) to is next = absurd is
no_link plan steps (Link p) to is next = grind arith
no_link plan steps (HoldOf relay) to is next = grind arith
no_link plan steps (InboxOf owner) to is next = grind arith

-- until a process is dropped, its link gets what it puts
puts_alone : (plan : Plan) (p : ℕ) (s : Step) → is_drop_of p s ≡ false
    → puts_into plan (Link p) s ≡ takes_from (Pending p) s
puts_alone plan p s other = grind arith

link_counts : (plan : Plan) (p : ℕ) (steps : List Step) → is_dropped steps p ≡ false
    → count_by (puts_into plan (Link p)) steps ≡ taken_from steps (Pending p)
link_counts plan p [] none = refl
link_counts plan p (s ∷ steps) none =
    grind (
      arith,
      puts_alone plan p s,
      link_counts plan p steps,
      sum_by-cons (λ x. cond
          (puts_into plan (Link p) x) 1 0) s steps,
      sum_by-cons (λ x. cond (takes_from (Pending p) x) 1 0) s steps,
    )

module _ (plan : Plan) (steps : List Step) (put : ℕ → List Note) (taken : List Item) (t : TransportState)
    (stands : IsTransportOf plan steps put taken t) where
  abbrev here : Place → Held
  here x = held_at t.places (place_number plan x)

  -- what a place has, by the definitions
  pub notes_are : (emissions : ℕ → List Note) (x : Place) → IsPlaceOf plan x
      → notes_in plan emissions steps x ≡ length (here x).items
  notes_are emissions x is = grind arith

  -- what stays where nothing was accepted
  pub same_after : (new : List Held) → new ≡ t.places
      → IsTransportOf plan (steps ++ []) put taken (record t { places = new })
  same_after new same = grind (arith, append-nil)

  -- the first item of a place is the entry whose turn it is, and of a process that there is
  first_entry : (x : Place) → IsPlaceOf plan x → (item : Item) (left : List Item) → (here x).items ≡ item ∷ left
      → IsEntry plan put steps x (taken_from steps x) item
  first_entry x is item left first = grind (arith, add-zero (taken_from steps x))

  process_of : {x : Place} {i : ℕ} {item : Item} → IsEntry plan put steps x i item → item.from < plan.n
  process_of entry = grind (arith, entry_process, cases_lt)

  -- what a step that moves an item from one place to another does to each
  stirred_by_shift : (s : Step) (from to : Place) → source s ≡ Some from → target plan s ≡ Some to → IsPlaceOf plan from
      → IsPlaceOf plan to → is_same_place from to ≡ false →
      (new : List Held) (is : IsShift t.places (place_number plan from) (place_number plan to) new) (x : Place)
      → IsPlaceOf plan x → IsStirred plan s is.item x (here x) (held_at new (place_number plan x))
  stirred_by_shift s from to takes puts is_from is_to apart new is x is_x =
      grind (arith, by_case, held_set, length-set)
    where
      by_case : (a b : Bool) → is_same_place x from ≡ a → is_same_place x to ≡ b →
          IsStirred plan s is.item x (here x) (cond a (record (here from) { items = is.left })
          (cond b (record (here to) { items = (here to).items ++ is.item ∷ [] }) (here x)))
      by_case a b at_from at_to = let le = (stands.held to is_to).within in
          let alone = no_link plan steps from to is_from (sym (ap (option_and_then (next_place plan)) takes) ∙ puts) in
          let size = (stands.held to is_to).room in grind (arith, same_place, itself, append-nil)

  -- a relay's step is no event
  no_events : (s : Step) → is_relayed s ≡ true → (emissions : ℕ → List Note)
      → reasons plan emissions steps s ≡ move_reasons plan (notes_in plan emissions steps) s
  no_events s relayed emissions = grind arith

  -- an item moved from the place of one number to the next
  module _ (s : Step) (i j : ℕ) (move : IsMoveBetween plan s i j) where
    is_to : IsPlaceOf plan move.to
    is_to = next_is_place plan stands.checked move.from move.to move.is_next move.is_from

    apart : is_same_place move.from move.to ≡ false
    apart = next_apart plan stands.checked move.from move.to move.is_next

    pub two_places : (i < length t.places) × (j < length t.places) × (i ≢ j)
    two_places = grind (arith, number_within, number_apart, is_to, apart)

    target_is : target plan s ≡ Some move.to
    target_is = ap (option_and_then (next_place plan)) move.takes ∙ move.is_next

    -- the place that it puts into is no link, and so has its room alone
    size_is : (held_at t.places j).room ≡ room_of plan move.to
    size_is = rw (move.number_to)
        ((stands.held move.to is_to).room ∙ (no_link plan steps move.from move.to move.is_from move.is_next).0)

    -- such a step is no put, no check and no event
    no_put : (p : ℕ) → takes_from (Pending p) s ≡ false
    no_put p = grind (arith, same_place)

    no_check : takes_from (InboxOf Root) s ≡ false
    no_check = grind (arith, same_place)

    no_event : (emissions : ℕ → List Note)
        → reasons plan emissions steps s ≡ move_reasons plan (notes_in plan emissions steps) s
    no_event emissions = grind arith

    shift_after : (new : List Held) → IsShift t.places (place_number plan move.from) (place_number plan move.to) new
        → IsTransportOf plan (steps ++ s ∷ []) put taken (record t { places = new })
    shift_after new is =
        let entry = first_entry move.from move.is_from is.item is.left is.first in
        subst (λ items. IsTransportOf plan (steps ++ s ∷ []) put items (record t { places = new }))
        (ap (λ b. taken ++ item_if b is.item) no_check ∙ append-nil taken)
        (transport_after plan steps put taken t stands s move.from is.item put new move.takes (process_of entry)
        (λ p yes. absurd (true≢false (sym yes ∙ no_put p))) (λ p yes. absurd (true≢false (sym yes ∙ no_put p)))
        (entry_grows plan put put steps (s ∷ []) (λ p i note at. at) entry)
        (stirred_by_shift s move.from move.to move.takes target_is move.is_from is_to apart new is)
        (λ p. rw (no_put p) (sym (append-nil (put p)))) (ap length is.moved
        ∙ length-set _ (place_number plan move.from) _ ∙ length-set t.places (place_number plan move.to) _))

    full_is : nat_le (held_at t.places j).room (length (held_at t.places j).items) ≡ eqb
        (length (held_at t.places j).items) (held_at t.places j).room
    full_is = grind (arith, size_is, is_to, no_link, nat_tests)

    tests_are : (emissions : ℕ → List Note)
        → reasons plan emissions steps s ≡ (false, why.NoSuch) ∷ shift_reasons t.places i j
    tests_are emissions = no_event emissions
        ∙ rw (
          move.named,
          move.takes,
          move.is_next,
          notes_are emissions move.from move.is_from,
          notes_are emissions move.to is_to,
          ← full_is,
          move.number_from,
          move.number_to,
          (stands.held move.to
              is_to).room ∙ (no_link plan steps move.from move.to move.is_from move.is_next).0,
        ) refl

    pub was_advanced : (answer : Reply) (new : List Held) → IsAnswer (shift_reasons t.places i j) answer
        → (answer ≡ Done → IsShift t.places i j new) → KeepsIfRefused t.places answer new →
        ((emissions : ℕ → List Note) → IsAnswer (reasons plan emissions steps s) answer)
        × IsTransportOf plan (steps ++ accepted_by s answer) put taken (record t { places = new })
    was_advanced answer new answered moved kept =
        (λ emissions. rw (tests_are emissions) answered, go (first_reason (shift_reasons t.places i j)) answered)
      where
        go : (o : Option Why) → MatchOption o (answer ≡ Done) (λ why. answer ≡ Refused why)
            → IsTransportOf plan (steps ++ accepted_by s answer) put taken (record t { places = new })
        go None done = rw done (shift_after new (rw (move.number_from, move.number_to) at (moved done)))
        go (Some why) refused = rw refused (same_after new (kept why refused))

  -- a move that names nothing
  pub refused_named : (s : Step) → is_relayed s ≡ true → names_nothing plan s ≡ true → ((emissions : ℕ → List Note)
      → IsAnswer (reasons plan emissions steps s) (Refused why.NoSuch)) × IsTransportOf plan (steps ++ []) put taken t
  refused_named s relayed named =
      (λ emissions. rw (no_events s relayed emissions, named) refl, same_after t.places refl)

  -- a note was put on the link of its process
  put_after : (p : ℕ) (note : Note) (places : List Held) → p < plan.n → is_dropped steps p ≡ false
      → length (here (Link p)).items < plan.cap →
      places ≡ set t.places p
      (record (here (Link p)) { items = (here (Link p)).items ++ record { from = p; note = note } ∷ [] }) →
      IsTransportOf plan (steps ++ step.Put p ∷ []) (put_more put p note) taken (record t { places = places })
  put_after p note places in_range live fits places_are =
      let item : Item = record { from = p; note = note } in
      subst (λ items. IsTransportOf plan (steps ++ step.Put p ∷ []) (put_more put p note) items
      (record t { places = places })) (append-nil taken)
      (transport_after plan steps put taken t stands (step.Put p) (Pending p) item
      (put_more put p note) places refl in_range
      (λ q yes. sym (eqb-true q p yes)) (λ q yes. subst (λ r. is_dropped steps r ≡ false) (sym (eqb-true q p yes)) live)
      (Emitted pending)
      (grind (arith, common_steps))
      more_is (ap length places_are ∙ length-set t.places p _))
    where
      pending : slice_get (put_more put p note p) (taken_from steps (Pending p)) ≡ Some note
      pending = rw (eq-eqb p p refl, sym (stands.as_many p)) (get_behind (put p) note [])

      more_is : (q : ℕ) → put_more put p note q ≡ put q ++ notes_taken q
          (item_if (takes_from (Pending q) (step.Put p)) (record { from = p; note = note }))
      more_is q = grind (arith, append-nil)

  -- whether a link is full is what a put is answered, where a note is pending
  put_tests : (p : ℕ) → p < plan.n → (emissions : ℕ → List Note) → 0 < notes_in plan emissions steps (Pending p) →
      reasons plan emissions steps (step.Put p)
      ≡ (false, why.NoSuch) ∷ (false, why.Empty) ∷ (nat_le plan.cap (length (here (Link p)).items), why.Full) ∷ []
  put_tests p in_range emissions some =
      let within : nat_lt p plan.n ≡ true = grind (arith, nat_tests) in
      let pending : eqb (notes_in plan emissions steps (Pending p)) 0 ≡ false = grind (arith, nat_tests) in
      rw (within, pending, notes_are emissions (Link p) in_range) refl

  -- nothing is pending at a dropped process
  still_live : (p : ℕ) (emissions : ℕ → List Note) → 0 < notes_in plan emissions steps (Pending p)
      → is_dropped steps p ≡ false
  still_live p emissions some = grind arith

  pub puts : (p : ℕ) (note : Note) (places : List Held) → p < plan.n → length (here (Link p)).items < plan.cap →
      places ≡ set t.places p
      (record (here (Link p)) { items = (here (Link p)).items ++ record { from = p; note = note } ∷ [] }) →
      (emissions : ℕ → List Note) → 0 < notes_in plan emissions steps (Pending p) →
      IsAnswer (reasons plan emissions steps (step.Put p)) Done
      × IsTransportOf plan (steps ++ step.Put p ∷ []) (put_more put p note) taken (record t { places = places })
  puts p note places in_range fits places_are emissions some =
      let room : nat_le plan.cap (length (here (Link p)).items) ≡ false = grind (arith, nat_tests, fits) in (
        subst (λ rs. IsAnswer rs Done) (sym (put_tests p in_range emissions some)) (rw room refl),
        put_after p note places in_range (still_live p emissions some) fits places_are,
      )

  pub put_refused : (p : ℕ) → p < plan.n → plan.cap ≤ length (here (Link p)).items → (emissions : ℕ → List Note)
      → 0 < notes_in plan emissions steps (Pending p) →
      IsAnswer (reasons plan emissions steps (step.Put p)) (Refused why.Full)
  put_refused p in_range full emissions some = grind (arith, nat_tests, put_tests)

  -- the link of a lost process has room for the mark
  pub mark_fits : (p : ℕ) → p < plan.n → is_dropped steps p ≡ false
      → length (here (Link p)).items < (here (Link p)).room
  mark_fits p in_range live =
      omega (arith, (stands.held (Link p) in_range).room, rw live at (stands.held (Link p) in_range).within)

  -- and gets it behind the notes that were put on it
  pub mark_given : (p : ℕ) (places : List Held) → p < plan.n → is_dropped steps p ≡ false →
      places ≡ set t.places p (record (here (Link p))
      { items = (here (Link p)).items ++ record { from = p; note = note.Lost (length (put p)) } ∷ [] }) →
      IsTransportOf plan (steps ++ step.Dropped p ∷ []) put taken (record t { places = places })
  mark_given p places in_range live places_are =
      subst (λ items. IsTransportOf plan (steps ++ s ∷ []) put items (record t { places = places })) (append-nil taken)
      (stirred_after plan steps put taken t stands s item put places in_range
      (λ q yes. absurd (true≢false (sym yes))) enters
      (let fits = rw live at (stands.held (Link p) in_range).within in grind (arith, common_steps))
      (λ q x y is on next. grind (arith, no_link plan steps x y is next)) (λ q. sym (append-nil (put q))) given_is
      (λ q dropped. elim (cases_eq q p) [
        | inl same ↦ omega (arith, in_range, same)
        | inr other ↦ stands.lost_known q (sym (others_stay q other) ∙ dropped)
      ]) (ap length places_are ∙ length-set t.places p _))
    where
      s : Step
      s = step.Dropped p

      item : Item
      item = record { from = p; note = note.Lost (length (put p)) }

      counted : count_by (puts_into plan (Link p)) steps ≡ length (put p)
      counted = link_counts plan p steps live ∙ sym (stands.as_many p)

      mark_enters : IsEntry plan put (steps ++ s ∷ []) (Link p) (length (put p)) item
      mark_enters = Vanished (record {
        at = length steps;
        there = get_behind steps s [];
        put_before = ap (count_by (puts_into plan (Link p))) (take_at steps (s ∷ []) (length steps) refl) ∙ counted;
      })

      enters : (x : Place) → puts_into plan x s ≡ true
          → IsEntry plan put (steps ++ s ∷ []) x (count_by (puts_into plan x) steps) item
      enters x there = rw (same_place x (Link p) there) (rw counted mark_enters)

      others_stay : (q : ℕ) → q ≢ p → is_dropped (steps ++ s ∷ []) q ≡ is_dropped steps q
      others_stay q other = dropped_push steps s q
          ∙ rw (ne_eqb p q (λ e. other (sym e))) (or-false (is_dropped steps q))

      own : given (steps ++ s ∷ []) p (put p) ≡ given steps p (put p) ++ come_to plan s item p (Link p)
      own = grind (arith, common_steps, gets, eq-eqb, dropped_push, append-nil)

      given_is : (q : ℕ) → given (steps ++ s ∷ []) q (put q) ≡ given steps q (put q) ++ come_to plan s item q (Link q)
      given_is q = grind (arith, common_steps, gets, cases_eq, own, others_stay, append-nil)

  -- the checker took the first item of the root inbox
  pub taken_after : (item : Item) (left : List Item) (places : List Held) → (here (InboxOf Root)).items ≡ item ∷ left
      → places ≡ set t.places (place_number plan (InboxOf Root)) (record (here (InboxOf Root)) { items = left }) →
      IsTransportOf plan (steps ++ step.Check ∷ []) put (taken ++ item ∷ []) (record t { places = places })
  taken_after item left places first places_are =
      let entry = first_entry (InboxOf Root) tt item left first in
      transport_after plan steps put taken t stands step.Check (InboxOf Root) item put places refl (process_of entry)
      (λ p yes. absurd (true≢false (sym yes))) (λ p yes. absurd (true≢false (sym yes)))
      (entry_grows plan put put steps (step.Check ∷ []) (λ p i note at. at) entry)
      (grind (arith, common_steps))
      (λ p. sym (append-nil (put p))) (ap length places_are ∙ length-set t.places _ _)

  -- what is read of the root inbox
  pub next_reads : (next : Option Item) → next ≡ slice_get (here (InboxOf Root)).items 0
      → MatchOption next (notes_in plan put steps (InboxOf Root) ≡ 0) (IsNextAtRoot plan steps put taken)
  next_reads None is = notes_are put (InboxOf Root) tt ∙ ap length (without_first (here (InboxOf Root)).items (sym is))
  next_reads (Some item) is =
      let first = with_first (here (InboxOf Root)).items item (sym is) in
      let left = drop 1 (here (InboxOf Root)).items in
      let entry = first_entry (InboxOf Root) tt item left first in
      let after = taken_after item left (set t.places (place_number plan (InboxOf Root))
      (record (here (InboxOf Root)) { items = left })) first refl in
      record {
        some = let many = notes_are put (InboxOf Root) tt in omega (arith, many, ap length first);
        entry = entry;
        process = process_of entry;
        rest = notes_along _ (Link item.from ∷ (after.in_order item.from (process_of entry)).way);
        prefix = rw (no_drop steps step.Check
            (InboxOf Root) item.from refl) at ((after.in_order item.from (process_of entry)).notes);
      }

-- between which places a relay's step moves an item
pub admit_moves : (t : TransportState) (relay p j : ℕ) → is_attached t.plan relay p ≡ true → j ≡ t.plan.n + relay
    → IsWayOf t (step.Admit relay p) (Some (p, j))
admit_moves t relay p j attached hold plan steps put taken stands =
    let same = sym (attached_same t.plan plan stands.same_plan relay p) ∙ attached in
    let leaf = attached_is plan relay p same in
    record {
      from = Link p;
      to = HoldOf relay;
      takes = refl;
      is_from = (attached_exists plan stands.checked p relay leaf).0;
      is_next = ap (option_map HoldOf) leaf;
      named = ap not same;
      number_from = refl;
      number_to = omega (arith, hold, stands.same_plan.n);
    }

pub pull_moves : (t : TransportState) (relay i j : ℕ) → relay < length t.plan.parents.items
    → is_leaf t.plan relay ≡ false → i ≡ place_number t.plan (InboxOf (Relay relay)) → j ≡ t.plan.n + relay
    → IsWayOf t (step.Pull relay) (Some (i, j))
pull_moves t relay i j within inner inbox hold plan steps put taken stands = record {
  from = InboxOf (Relay relay);
  to = HoldOf relay;
  takes = refl;
  is_from = omega (arith, within, ap length stands.same_plan.parents);
  is_next = refl;
  named = grind (arith, nat_tests, leaf_same t.plan plan stands.same_plan relay, stands.same_plan.parents);
  number_from = omega (arith, inbox, stands.same_plan.n, ap length stands.same_plan.parents);
  number_to = omega (arith, hold, stands.same_plan.n);
}

pub pass_moves : (t : TransportState) (relay i j : ℕ) (owner : Parent) → parent_of t.plan relay ≡ Some owner
    → i ≡ t.plan.n + relay → j ≡ place_number t.plan (InboxOf owner) → IsWayOf t (step.Pass relay) (Some (i, j))
pass_moves t relay i j owner parent hold inbox plan steps put taken stands =
    let same : parent_of plan relay ≡ Some owner = ap (λ l. slice_get l relay) (sym stands.same_plan.parents)
    ∙ parent in
    let within = slice_get_within plan.parents.items relay owner same in
    record {
      from = HoldOf relay;
      to = InboxOf owner;
      takes = refl;
      is_from = within;
      is_next = ap (option_map InboxOf) same;
      named = grind (arith, nat_tests);
      number_from = omega (arith, hold, stands.same_plan.n);
      number_to = inbox ∙ number_same t.plan plan stands.same_plan (InboxOf owner);
    }
