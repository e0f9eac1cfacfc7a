-- What a checked plan keeps.
use Rattle.wcp_model.proofs.Words.{AreSomeWatched, cases_lt, cases_Bool, inl, ◌≡◌, ◌≢◌, ℕ, true, false, ◌<◌, ◌≤◌}
use Rattle.wcp_model.proofs.Words.{length, take, get_or, slice_get, Option, Some, None, inr, refl, sym, ap, ◌∙◌}
use Rattle.wcp_model.proofs.Words.{eqb-true, eq-eqb, arith, list_any, list_any_at, slice_get-get_or, slice_get_within}
use Rattle.wcp_model.proofs.Words.{get_or_from_slice_get, most_processes, most_cap, most_hold, most_relays, Relay, Plan}
use Rattle.wcp_model.proofs.Words.{IsCheckedPlan, is_number, is_leaf, leaf_of, parent_of}
use Rattle.std.specs.FinSet as set
use Rattle.std.specs.Option.{option_flatten}
use Rattle.wcp_model.proofs.Decided.{Decided, some_below_decided, agree_decided}
use Rattle.std.proofs.Math.Seq.{take-length}
use Rattle.wcp_model.specs.declared.plan.PlanFault.TheVariants as fault

-- which relay a number stands for
pub is_its_number : (relay : ℕ) (o : Option ℕ) → is_number relay o ≡ true → o ≡ Some relay
is_its_number relay None is = cc
is_its_number relay (Some other) is = ap Some (eqb-true other relay is)

pub is_not_its_number : (relay : ℕ) (o : Option ℕ) → is_number relay o ≡ false → o ≢ Some relay
is_not_its_number relay o fails same = let own = ap (is_number relay) same in let equal = eq-eqb relay relay refl in cc

module _ (plan : Plan) (checked : IsCheckedPlan plan) where
  -- there are 1 to 16 processes
  pub some_process : 0 < plan.n
  some_process = grind (arith, checked fault.Procs)

  pub few_processes : plan.n ≤ most_processes
  few_processes = grind (arith, checked fault.Procs)

  -- some of them are watched, and nobody else
  pub some_watched : AreSomeWatched plan.n plan.watched
  some_watched = record { some = some; within = within }
    where
      within : (p : ℕ) → set.contains plan.watched p ≡ true → p < plan.n
      within p member = elim (cases_lt p plan.n) [
        | inl below ↦ below
        | inr past ↦ absurd (checked fault.Watched (inr (p, member, past)))
      ]

      decided : Decided ((p : ℕ) × (p < plan.n) × (set.contains plan.watched p ≡ true))
      decided = some_below_decided (λ p. set.contains plan.watched p ≡ true) plan.n
          (λ p below. agree_decided (set.contains plan.watched p) true)

      some : (p : ℕ) × (set.contains plan.watched p ≡ true)
      some = elim decided [
        | inl found ↦ (found.0, found.2)
        | inr none ↦ absurd (checked fault.Watched (inl (λ p. elim (cases_Bool (set.contains plan.watched p)) [
          | inl member ↦ absurd (none (p, within p member, member))
          | inr out ↦ out
        ])))
      ]

  -- links, inboxes and holds have room for a note at least, and for as many as the limits allow
  pub capacity : (0 < plan.cap) × (plan.cap ≤ most_cap)
  capacity = grind (arith, checked fault.Cap)

  pub hold_room : (0 < plan.hold) × (plan.hold ≤ most_hold)
  hold_room = grind (arith, checked fault.Hold)

  -- there are 1 to 15 relays
  pub some_relays : 0 < length plan.parents.items
  some_relays = grind (arith, checked fault.Parent)

  pub few_relays : length plan.parents.items ≤ most_relays
  few_relays = grind (arith, checked fault.Parent)

  -- the parent of a relay is lower
  pub parent_below : (relay above : ℕ) → parent_of plan relay ≡ Some (Relay above) → above < relay
  parent_below relay above at = grind (arith, checked fault.Parent)

  -- each process has an entry, and no other has one
  pub attached_all : length plan.attach.items ≡ plan.n
  attached_all = grind (arith, checked fault.Unattached)

  -- the entries are just those of the n processes
  pub all_served : take plan.n plan.attach.items ≡ plan.attach.items
  all_served = ap (λ n. take n plan.attach.items) (sym attached_all) ∙ take-length plan.attach.items

  -- the entry of a process that has a leaf
  pub entry_of : (p relay : ℕ) → leaf_of plan p ≡ Some relay → slice_get plan.attach.items p ≡ Some (Some relay)
  entry_of p relay is = grind arith

  -- a process that has a leaf is one of the n, and its leaf is one of the relays
  pub attached_exists : (p relay : ℕ) → leaf_of plan p ≡ Some relay → (p < plan.n) × (relay < length plan.parents.items)
  attached_exists p relay is =
      let entry = entry_of p relay is in
      let within = slice_get_within plan.attach.items p (Some relay) entry in
      let read = get_or_from_slice_get plan.attach.items p (Some relay) (Some relay) entry in
      let named = λ (none : length plan.parents.items ≤ relay). checked fault.Unattached
      (inr (p, Some relay, within, read, none)) in
      grind (arith, attached_all)

  -- each of the n processes has a leaf
  pub has_leaf : (p : ℕ) → p < plan.n → (leaf : ℕ) × (leaf_of plan p ≡ Some leaf)
  has_leaf p below = named (get_or plan.attach.items p None) refl
    where
      within : p < length plan.attach.items
      within = omega (arith, below, attached_all)

      named : (entry : Option ℕ) → get_or plan.attach.items p None ≡ entry → (leaf : ℕ) × (leaf_of plan p ≡ Some leaf)
      named (Some leaf) is = (leaf, ap option_flatten (slice_get-get_or plan.attach.items p None within ∙ ap Some is))
      named None is = absurd (checked fault.Unattached (inr (p, None, within, is, tt)))

  -- a relay that serves a process is a leaf
  pub is_its_leaf : (p relay : ℕ) → leaf_of plan p ≡ Some relay → is_leaf plan relay ≡ true
  is_its_leaf p relay is =
      let entry = entry_of p relay is in
      let within = slice_get_within plan.attach.items p (Some relay) entry in
      let read = get_or_from_slice_get plan.attach.items p (Some relay) None entry in
      ap (list_any (is_number relay)) all_served
      ∙ list_any_at (is_number relay) plan.attach.items p None within
      (ap (is_number relay) read ∙ eq-eqb relay relay refl)

  -- a relay that serves a process serves no relay
  pub not_mixed : (relay child p : ℕ) → leaf_of plan p ≡ Some relay → parent_of plan child ≡ Some (Relay relay) → ⊥
  not_mixed relay child p is at =
      let within = slice_get_within plan.parents.items child (Relay relay) at in
      let read = get_or_from_slice_get plan.parents.items child (Relay relay) (Relay relay) at in
      checked fault.Mixed (relay, (attached_exists p relay is).1, is_its_leaf p relay is, (child, within, read))
