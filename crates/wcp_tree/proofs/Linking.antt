-- One relay after another is opened, each after its parent.
use Rattle.wcp_tree.proofs.Words.{◌≡◌, ◌≢◌, ℕ, ◌<◌, ◌≤◌, List, [], ◌∷◌, ◌++◌, length, Option, Some, refl, sym, ap}
use Rattle.wcp_tree.proofs.Words.{subst, ◌∙◌, ⊎_elim, arith, common_steps, slice_get, cases_eq, length_push, All-weaker}
use Rattle.wcp_tree.proofs.Words.{slice_get-get_or, Item, Parent, Plan, IsCheckedPlan, leaf_of, parent_of, TakeSide}
use Rattle.wcp_tree.proofs.Words.{LaneName, PutEnd, Bundle, Source, Leaf, Inner, AreChildrenSeated, IsRelayOf, IsSource}
use Rattle.wcp_tree.proofs.Words.{IsFeed, AreLinked, AreSeatedUnder, IsLinked, lane_below, lane_to, IsSeatOf}
use Rattle.wcp_model.specs.declared.plan.Parent.TheVariants as parent
use Rattle.wcp_relay.specs.declared.relay.Relay.{Relay}
use Rattle.wcp_relay.proofs.Entries.{last_entry, earlier_entry}
use Rattle.wcp_relay.proofs.Parents.{IsOpen, owner_is_open}

-- feeds of rings that were here before
same_source : (plan : Plan) (before now : List (Option TakeSide)) (relay : ℕ) (source : Source)
    → ((p : ℕ) → leaf_of plan p ≡ Some relay → slice_get now p ≡ slice_get before p)
    → IsSource plan now relay source → IsSource plan before relay source
same_source plan before now relay (Leaf feeds sleeper) here is = (
  is.0,
  record {
    each = All-weaker (IsFeed plan relay now plan.n) (IsFeed plan relay before plan.n)
        (λ feed old. grind (arith, common_steps, old, here feed.process))
        feeds.items is.1.each;
    processes = is.1.processes;
    apart = is.1.apart;
  },
)
same_source plan before now relay (Inner taker) here is = is

module _ (plan : Plan) (watch : ℕ) (root : LaneName Bundle) (before : List (Option TakeSide)) where
  -- the relay's seat is taken, on the lane of this owner
  abbrev pub IsSeated : List Relay → List (Option (PutEnd Bundle Item)) → ℕ → Parent → Type 0
  IsSeated relays seats relay owner =
      (lane : LaneName Bundle) × (lane_to root relays owner ≡ Some lane)
      × (putter : PutEnd Bundle Item) × (slice_get seats relay ≡ Some (Some putter)) × IsSeatOf plan relay lane putter

  -- these relays are open, the relays after them whose parents take from a lane are seated, and the feeds of leaves
  -- after them are here
  pub record AreOpened (relays : List Relay) (seats : List (Option (PutEnd Bundle Item)))
      (now : List (Option TakeSide)) : Type 0 where
    pub each : (place : ℕ) → place < length relays → IsLinked plan watch root before relays place
    pub seated : (relay : ℕ) (owner : Parent) → length relays ≤ relay → parent_of plan relay ≡ Some owner
        → IsOpen (length relays) owner → IsSeated relays seats relay owner
    pub here : (p leaf : ℕ) → leaf_of plan p ≡ Some leaf → length relays ≤ leaf → slice_get now p ≡ slice_get before p

  pub none_open : (seats : List (Option (PutEnd Bundle Item))) → AreSeatedUnder plan root seats
      → AreOpened [] seats before
  none_open seats under = record {
    each = λ place below. absurd (omega (arith, below));
    seated = first;
    here = λ p leaf at past. refl;
  }
    where
      first : (relay : ℕ) (owner : Parent) → 0 ≤ relay → parent_of plan relay ≡ Some owner → IsOpen 0 owner
          → IsSeated [] seats relay owner
      first relay parent.Root past at open' = let seat = under relay at in (root, refl, seat.0, seat.1, seat.2)
      first relay (parent.Relay above) past at open' = absurd (omega (arith, open'))

  -- the lane of an owner that took from one stays
  lane_stays : (relays : List Relay) (relay : Relay) (owner : Parent) → IsOpen (length relays) owner
      → lane_to root (relays ++ relay ∷ []) owner ≡ lane_to root relays owner
  lane_stays relays relay parent.Root open' = refl
  lane_stays relays relay (parent.Relay above) open' = ap lane_below (earlier_entry relays (relay ∷ []) above open')

  module _ (checked : IsCheckedPlan plan) where
    open_below : (owner : Parent) (low high : ℕ) → low ≤ high → IsOpen low owner → IsOpen high owner
    open_below parent.Root low high most is = tt
    open_below (parent.Relay above) low high most is = omega (arith, is, most)

    -- the seat of the next relay
    pub next_seat : (relays : List Relay) (seats : List (Option (PutEnd Bundle Item))) (now : List (Option TakeSide))
        → AreOpened relays seats now → length relays < length plan.parents.items
        → (owner : Parent) × (parent_of plan (length relays) ≡ Some owner) × IsSeated relays seats (length relays) owner
    next_seat relays seats now opened within =
        let at = slice_get-get_or plan.parents.items (length relays) parent.Root within in
        (_, at, opened.seated (length relays) _ (omega arith) at (owner_is_open plan checked (length relays) _ at))

    module _ (relays : List Relay) (seats new_seats : List (Option (PutEnd Bundle Item)))
        (now new : List (Option TakeSide))
        (relay : Relay) (opened : AreOpened relays seats now) (within : length relays < length plan.parents.items)
        (is : IsRelayOf plan watch now (length relays) relay)
        (seat : slice_get seats (length relays) ≡ Some (Some relay.putter))
        (children : AreChildrenSeated plan (length relays) relay.source new_seats)
        (other_seats : (other : ℕ) → other ≢ length relays → parent_of plan other ≢ Some (parent.Relay (length relays))
        → slice_get new_seats other ≡ slice_get seats other)
        (other_takers : (p : ℕ) → leaf_of plan p ≢ Some (length relays) → slice_get new p ≡ slice_get now p) where
      abbrev more : List Relay
      more = relays ++ relay ∷ []

      linked_before : (place : ℕ) → place < length relays → IsLinked plan watch root before more place
      linked_before place below =
          let old = opened.each place below in
          record {
            relay = old.relay;
            is_relay = earlier_entry relays (relay ∷ []) place below ∙ old.is_relay;
            of_plan = old.of_plan;
            above = lane_stays relays relay old.relay.parent
                (open_below old.relay.parent place (length relays) (omega (arith, below))
                (owner_is_open plan checked place old.relay.parent old.of_plan.parent))
                ∙ old.above;
          }

      linked_here : IsLinked plan watch root before more (length relays)
      linked_here =
          let next = next_seat relays seats now opened within in
          let its : next.2.2 ≡ relay.putter = let e = sym next.2.3 ∙ seat in cc in
          record {
            relay = relay;
            is_relay = last_entry relays relay;
            of_plan = record {
              number = is.number;
              watch = is.watch;
              parent = is.parent;
              source = same_source plan before now (length relays) relay.source
                  (λ p at. opened.here p (length relays) at (omega arith)) is.source;
              members = is.members;
              none_put = is.none_put;
              none_held = is.none_held;
              room = is.room;
            };
            above = subst (λ owner. lane_to root more owner ≡ Some relay.putter.lane)
                (let both = sym next.1 ∙ is.parent in cc)
                (lane_stays relays relay next.0 (owner_is_open plan checked (length relays) next.0 next.1) ∙ next.2.1
                ∙ ap Some (sym next.2.4.on ∙ ap (λ (p : PutEnd Bundle Item). p.lane) its));
          }

      seated_after : (other : ℕ) (owner : Parent) → length more ≤ other → parent_of plan other ≡ Some owner
          → IsOpen (length more) owner → IsSeated more new_seats other owner
      seated_after other parent.Root past at open' =
          let later : length relays < other = omega (arith, past, length_push relays relay) in
          let old = opened.seated other parent.Root (omega (arith, later)) at tt in (
            old.0,
            old.1,
            old.2,
            other_seats other (λ e. omega (arith, e, later)) (λ e. let both = sym at ∙ e in cc) ∙ old.3,
            old.4,
          )
      seated_after other (parent.Relay above) past at open' = ⊎_elim
          (λ (same : above ≡ length relays).
          let child = children other (at ∙ ap (λ n. Some (parent.Relay n)) same) in (
            child.0,
            ap lane_below (ap (slice_get more) same ∙ last_entry relays relay) ∙ child.1,
            child.2,
            child.3,
            child.4,
          ))
          (λ (apart : above ≢ length relays).
          let low : above < length relays = omega (arith, open', apart, length_push relays relay) in
          let old = opened.seated other (parent.Relay above) (omega (arith, past, length_push relays relay)) at low in (
            old.0,
            lane_stays relays relay (parent.Relay above) low ∙ old.1,
            old.2,
            other_seats other (λ e. omega (arith, e, past, length_push relays relay))
                (λ e. apart (let both = sym at ∙ e in cc)) ∙ old.3,
            old.4,
          ))
          (cases_eq above (length relays))

      -- and then one relay more is open
      pub one_opened : AreOpened (relays ++ relay ∷ []) new_seats new
      one_opened = record {
        each = λ place below. ⊎_elim
            (λ (same : place ≡ length relays). subst (IsLinked plan watch root before more) (sym same) linked_here)
            (λ (apart : place ≢ length relays). linked_before place
            (omega (arith, below, apart, length_push relays relay)))
            (cases_eq place (length relays));
        seated = seated_after;
        here = λ p leaf at past.
            grind (arith, common_steps, at, past, other_takers p, opened.here p leaf at, length_push relays relay);
      }

  pub all_opened : (relays : List Relay) (seats : List (Option (PutEnd Bundle Item))) (now : List (Option TakeSide))
      → AreOpened relays seats now → length relays ≡ length plan.parents.items → AreLinked plan watch root before relays
  all_opened relays seats now opened count = record { count = count; each = opened.each }
