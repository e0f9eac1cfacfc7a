-- The links of one relay after another are matched.
use Rattle.wcp_watch.proofs.Words.{◌≡◌, ◌≢◌, ◌↔◌, ◌⊎◌, ℕ, ◌+◌, ◌<◌, ◌≤◌, true, List, [], ◌∷◌, length, length-set, Vec}
use Rattle.wcp_watch.proofs.Words.{Global, Option, Some, None, Result, Ok, Err, refl, sym, ap, subst, subst₂, ◌∙◌, inl}
use Rattle.wcp_watch.proofs.Words.{⊎_elim, arith, slice_get, slice_set, All, AllPairs, IsOk, IsErr, AllByRecursion}
use Rattle.wcp_watch.proofs.Words.{cases_eq, length-map, get_or-map, All-from_recursion, All-weaker, recursion_from_All}
use Rattle.wcp_watch.proofs.Words.{most_relays, Item, Parent, leaf_of, Ring, LaneName, PutEnd, TakenEnd, Numbers}
use Rattle.wcp_watch.proofs.Words.{Bundle, Serves, items_of, ClosedSide, AreReceiptsOf, IsReceiptOf, fault_of}
use Rattle.wcp_watch.proofs.Words.{relay_taken, whole_end, AreSameFeeds, IsSource, inbox_lane, IsLinked, lane_below}
use Rattle.wcp_watch.proofs.Words.{lane_to, Feed, Receipts, Feeds, Lane, RelayEnd, Source, Leaf, Inner, few_relays}
use Rattle.wcp_watch.proofs.Words.{set_here, set_elsewhere, AreEndsThere, AreFirstMatched, HasProbe, IsKeptAt}
use Rattle.wcp_watch.proofs.Words.{inbox_place, SitsAt, AreLinksMatched, AreTakenFrom, IsLaneMatched, IsRingMatched}
use Rattle.std.specs.FinSet as set
use Rattle.wcp_model.specs.declared.plan.Parent.TheVariants as parent
use Rattle.wcp_relay.specs.Rings.{IsFeed}
use Rattle.wcp_relay.proofs.Parents.{IsOpen, owner_is_open}
use Rattle.wcp_watch.proofs.MatchedRings.{sits_alone}

-- what gives an error is no success
pub is_refused : {A E Q : Type 0} (r : Result A E) → IsErr r → ¬ Q → IsOk r ↔ Q
is_refused (Ok a) err denied = absurd (cc)
is_refused (Err e) err denied = (λ ok. absurd (cc ok), λ all. absurd (denied all))

-- an owner that is open with one relay more was open before, and its inbox is elsewhere, or it is that relay
open_cases : (k : ℕ) → k < most_relays → (owner : Parent) → IsOpen (k + 1) owner
    → (IsOpen k owner × (inbox_place owner ≢ k)) ⊎ (owner ≡ parent.Relay k)
open_cases k few parent.Root is = inl (tt, λ same. omega arith)
open_cases k few (parent.Relay above) is = grind (arith, is, cases_eq above k)

-- what holds of the process and the ring of each feed holds of each of the same feeds
same_hold : (P : ℕ → Ring → Type 0) (old new : List Feed) → AreSameFeeds old new
    → AllByRecursion (λ feed. P feed.process feed.taker.ring) old
    → AllByRecursion (λ feed. P feed.process feed.taker.ring) new
same_hold P [] [] same all = tt
same_hold P [] (feed ∷ new) same all = absurd (cc same.0)
same_hold P (feed ∷ old) [] same all = absurd (cc same.0)
same_hold P (feed ∷ old) (other ∷ new) (processes, rings) all = (
  let process : other.process ≡ feed.process = cc in let ring : other.taker.ring ≡ feed.taker.ring = cc in
      rw (process, ring) all.0,
  same_hold P old new ((cc), (cc)) all.1,
)

-- a source with a lane leaves its receipt
lane_left : (source : Source) (receipt : TakenEnd Bundle Item) (lane : LaneName Bundle)
    → IsReceiptOf source (Lane receipt)
    → inbox_lane source ≡ Some lane → receipt.lane ≡ lane
lane_left (Leaf feeds parker) receipt lane left is = absurd left
lane_left (Inner taker) receipt lane left is = cc

-- and a leaf takes from none
no_lane : (source : Source) (feeds : Vec Feed Global) (lane : LaneName Bundle) → IsReceiptOf source (Feeds feeds)
    → inbox_lane source ≡ Some lane → ⊥
no_lane (Leaf old parker) feeds lane left is = cc
no_lane (Inner taker) feeds lane left is = left

module _ {count : ℕ} {probe_ends : List (Option ClosedSide)} {root : TakenEnd Bundle Item}
    {relay_ends : List (Option RelayEnd)}
    (there : AreEndsThere count probe_ends root relay_ends) where
  -- the lane that an owner takes from
  abbrev lane_at : Parent → Option (LaneName Bundle)
  lane_at owner = lane_to there.watch.inbox.taker.lane there.watch.relays.items owner

  -- the receipt of the lane that an owner takes from is here, with what was taken
  pub record HasInbox (inboxes : List (Option (TakenEnd Bundle Item))) (owner : Parent)
      (lane : LaneName Bundle) : Type 0 where
    pub receipt : TakenEnd Bundle Item
    pub sits : SitsAt inboxes (inbox_place owner) receipt
    pub is_lane : receipt.lane ≡ lane
    pub taken : (p : ℕ) (items : List Item)
        → (items_of p receipt.taken ≡ items) ↔ AreTakenFrom root (SitsAt relay_ends) owner p items

  -- the links of the first k relays were matched, and the other ends are as they were
  pub record HaveMatched (k : ℕ) (relays : List (Option RelayEnd)) (probes : List (Option ClosedSide))
      (inboxes : List (Option (TakenEnd Bundle Item))) : Type 0 where
    pub ahead : (j : ℕ) → k ≤ j → slice_get relays j ≡ slice_get relay_ends j
    pub unfed : (p leaf : ℕ) → leaf_of there.plan p ≡ Some leaf → k ≤ leaf → slice_get probes p ≡ slice_get probe_ends p
    pub open_inboxes : (owner : Parent) (lane : LaneName Bundle) → IsOpen k owner → lane_at owner ≡ Some lane
        → HasInbox inboxes owner lane
    pub matched : AreFirstMatched k probe_ends root relay_ends
    pub size : length inboxes ≡ most_relays + 1

  pub few : count ≤ most_relays
  few = omega (arith, there.all, few_relays there.plan there.checked)

  pub none_matched : (inboxes : List (Option (TakenEnd Bundle Item))) → length inboxes ≡ most_relays + 1
      → SitsAt inboxes most_relays root
      → HaveMatched 0 relay_ends probe_ends inboxes
  none_matched inboxes size sits = record {
    ahead = λ j past. refl;
    unfed = λ p leaf at past. refl;
    open_inboxes = first;
    matched = λ j relay below at. absurd (omega arith);
    size = size;
  }
    where
      first : (owner : Parent) (lane : LaneName Bundle) → IsOpen 0 owner → lane_at owner ≡ Some lane
          → HasInbox inboxes owner lane
      first parent.Root lane open' is =
          record {
            receipt = root;
            sits = sits;
            is_lane = cc there.lane;
            taken = λ p items. (λ same. same, λ same. same);
          }
      first (parent.Relay above) lane open' is = absurd (omega arith)

  -- the relay of the plan whose end sits at its place
  pub linked : (k : ℕ) → k < count
      → IsLinked there.plan there.watch_number there.watch.inbox.taker.lane there.wired.takers there.watch.relays.items
      k
  linked k below = there.wired.linked.each k (omega (arith, there.all, there.wired.linked.count))

  pub receipts_of : (k : ℕ) (below : k < count) (end : RelayEnd) → SitsAt relay_ends k end
      → AreReceiptsOf (linked k below).relay end
  receipts_of k below end sits =
      let has = there.relay k below in
      let link = linked k below in
      let relay : has.is_end.relay ≡ link.relay = cc in
      let same : has.end ≡ end = cc in
      subst₂ AreReceiptsOf relay same (rw has.whole at has.is_end.receipts)

  -- a process of relay k with its ring: the end of its probe sits there
  abbrev IsServed : ℕ → ℕ → Ring → Type 0
  IsServed k p ring =
      (leaf_of there.plan p ≡ Some k) × (end : ClosedSide) × SitsAt probe_ends p end × (end.link.ring ≡ ring)

  served : (k : ℕ) (feed : Feed) → IsFeed there.plan k there.wired.takers there.plan.n feed
      → IsServed k feed.process feed.taker.ring
  served k feed is =
      let has = there.probe feed.process is.within in
      let ring = there.wired.rings.each feed.process is.within in
      (is.served, has.end, has.sits, (cc))

  -- the feeds that a leaf left
  feeds_left : (k : ℕ) (source : Source) (members : Numbers) (feeds : Vec Feed Global)
      → IsSource there.plan there.wired.takers k source
      → Serves source members → IsReceiptOf source (Feeds feeds)
      → All (λ feed. IsServed k feed.process feed.taker.ring) feeds.items
      × AllPairs (λ one other. one.process ≢ other.process) feeds.items
  feeds_left k (Leaf old parker) members feeds is serves left = (
    All-from_recursion _ feeds.items (same_hold (IsServed k) old.items feeds.items left
        (recursion_from_All _ old.items (All-weaker _ _ (served k) old.items is.1.each))),
    λ i j d less within same.
        subst (AllPairs (λ p q. p ≢ q)) (sym left.0) serves.1 i j d.process less
        (omega (arith, length-map feeds.items (λ (f : Feed). f.process)))
        (get_or-map (λ (f : Feed). f.process) feeds.items i d d.process (omega arith) ∙ same
        ∙ sym (get_or-map (λ (f : Feed). f.process) feeds.items j d d.process within)),
  )
  feeds_left k (Inner taker) members feeds is serves left = absurd left

  module _ {k : ℕ} (below : k < count) {relays : List (Option RelayEnd)} {probes : List (Option ClosedSide)}
      {inboxes : List (Option (TakenEnd Bundle Item))} (old : HaveMatched k relays probes inboxes) where
    -- somebody sits there, without a fault
    pub whole_next : (end : RelayEnd) × SitsAt relays k end × (fault_of end ≡ None)
    whole_next =
        let has = there.relay k below in (has.end, old.ahead k (omega arith) ∙ has.sits, has.whole)

    module _ {number watch : ℕ} {owner : Parent} {taken : Receipts} {put : PutEnd Bundle Item}
        (sits : SitsAt relays k (whole_end number watch owner taken put)) where
      abbrev end : RelayEnd
      end = whole_end number watch owner taken put

      sat : SitsAt relay_ends k end
      sat = sym (old.ahead k (omega arith)) ∙ sits

      receipts : AreReceiptsOf (linked k below).relay end
      receipts = receipts_of k below end sat

      -- the receipt of its parent's inbox is there
      pub inbox : HasInbox inboxes owner put.lane
      inbox =
          let link = linked k below in
          old.open_inboxes owner put.lane
          (owner_is_open there.plan there.checked k owner (link.of_plan.parent ∙ ap Some (sym receipts.0)))
          (ap lane_at receipts.0 ∙ link.above ∙ ap Some (sym receipts.2))

      pub has_inbox : (receipt : TakenEnd Bundle Item) × SitsAt inboxes (inbox_place owner) receipt
          × (receipt.lane ≡ put.lane)
      has_inbox = (inbox.receipt, inbox.sits, inbox.is_lane)

      -- its lane was matched where what was taken from that inbox is what it put
      pub lane_exact : {P : Type 0} → ((receipt : TakenEnd Bundle Item) → SitsAt inboxes (inbox_place owner) receipt
          → P ↔ ((p : ℕ) → set.contains put.members p ≡ true → items_of p receipt.taken ≡ items_of p put.put))
          → P ↔ IsLaneMatched root (SitsAt relay_ends) end
      lane_exact exact =
          let here = exact inbox.receipt inbox.sits in (
            λ is p has. (inbox.taken p (items_of p put.put)).0 (here.0 is p has),
            λ matched. here.1 (λ p has. (inbox.taken p (items_of p put.put)).1 (matched p has)),
          )

      pub its_links : AreFirstMatched count probe_ends root relay_ends
          → AreLinksMatched (SitsAt probe_ends) root (SitsAt relay_ends) end
      its_links all = all k end below sat

      -- the next relay
      next : {more : List (Option (TakenEnd Bundle Item))} {fed : List (Option ClosedSide)}
          → ((place : ℕ) (receipt : TakenEnd Bundle Item) → place ≢ k → SitsAt inboxes place receipt
          → IsKeptAt more place receipt)
          → ((lane : LaneName Bundle) → inbox_lane (linked k below).relay.source ≡ Some lane
          → HasInbox more (parent.Relay k) lane)
          → length more ≡ most_relays + 1
          → ((p leaf : ℕ) → leaf_of there.plan p ≡ Some leaf → k + 1 ≤ leaf → slice_get fed p ≡ slice_get probes p)
          → AreLinksMatched (SitsAt probe_ends) root (SitsAt relay_ends) end
          → HaveMatched (k + 1) (slice_set relays k None) fed more
      next {more} keep own size untouched matched = record {
        ahead = λ j past. set_elsewhere relays k j None (λ same. omega arith) ∙ old.ahead j (omega arith);
        unfed = λ p leaf is past. untouched p leaf is past ∙ old.unfed p leaf is (omega arith);
        open_inboxes = λ above lane open' at. ⊎_elim
            (λ (was : IsOpen k above × (inbox_place above ≢ k)).
            let first = old.open_inboxes above lane was.0 at in
            let then = keep (inbox_place above) first.receipt was.1 first.sits in
            record {
              receipt = then.same;
              sits = then.sits;
              is_lane = then.lane ∙ first.is_lane;
              taken = λ p items. rw then.taken (first.taken p items);
            })
            (λ (same : above ≡ parent.Relay k).
            subst (λ owner. HasInbox more owner lane) (sym same)
            (own lane (ap lane_below (sym (linked k below).is_relay) ∙ ap lane_at (sym same) ∙ at)))
            (open_cases k (omega (arith, few)) above open');
        matched = λ j relay less there. grind (arith, less, there, sat, matched, old.matched j relay, cases_eq j k);
        size = size;
      }

    module _ {number watch : ℕ} {owner : Parent} {put : PutEnd Bundle Item} {feeds : Vec Feed Global}
        (sits : SitsAt relays k (whole_end number watch owner (Feeds feeds) put)) where
      left : All (λ feed. IsServed k feed.process feed.taker.ring) feeds.items
          × AllPairs (λ one other. one.process ≢ other.process) feeds.items
      left =
          let link = linked k below in
          feeds_left k link.relay.source link.relay.putter.members feeds link.of_plan.source link.relay.serves
          (receipts sits).1

      -- the probes of its processes sit as they did
      as_before : All (λ feed. slice_get probes feed.process ≡ slice_get probe_ends feed.process) feeds.items
      as_before i d within = old.unfed _ k (left.0 i d within).0 (omega arith)

      pub feeds_seated : All (HasProbe probes) feeds.items
      feeds_seated i d within =
          let is = left.0 i d within in record { probe = is.1; sits = as_before i d within ∙ is.2; one_ring = is.3 }

      pub feeds_apart : AllPairs (λ one other. one.process ≢ other.process) feeds.items
      feeds_apart = left.1

      pub rings_exact : All (IsRingMatched (SitsAt probes)) feeds.items
          ↔ All (IsRingMatched (SitsAt probe_ends)) feeds.items
      rings_exact = (
        λ matched i d within.
            let own = matched i d within in (own.0, λ probe at. own.1 probe (as_before i d within ∙ at)),
        λ matched i d within.
            let own = matched i d within in (own.0, λ probe at. own.1 probe (sym (as_before i d within) ∙ at)),
      )

      pub leaf_matched : {more : List (Option (TakenEnd Bundle Item))} {fed : List (Option ClosedSide)}
          → ((place : ℕ) (receipt : TakenEnd Bundle Item) → SitsAt inboxes place receipt → IsKeptAt more place receipt)
          → length more ≡ most_relays + 1
          → IsLaneMatched root (SitsAt relay_ends) (whole_end number watch owner (Feeds feeds) put)
          → All (IsRingMatched (SitsAt probes)) feeds.items
          → ((p : ℕ) → All (λ feed. feed.process ≢ p) feeds.items → slice_get fed p ≡ slice_get probes p)
          → HaveMatched (k + 1) (slice_set relays k None) fed more
      leaf_matched keep size lane rings others = next sits (λ place receipt apart. keep place receipt)
          (λ lane is. absurd (no_lane (linked k below).relay.source feeds lane (receipts sits).1 is))
          size
          (λ p leaf at past. others p (λ i d within same.
          let served = (left.0 i d within).0 in
          let one : k ≡ leaf = let both = sym served ∙ ap (leaf_of there.plan) same ∙ at in cc in
          omega arith))
          (record { rings = rings_exact.0 rings; lane = lane })

    module _ {number watch : ℕ} {owner : Parent} {put : PutEnd Bundle Item} {receipt : TakenEnd Bundle Item}
        (sits : SitsAt relays k (whole_end number watch owner (Lane receipt) put)) where
      pub inner_matched : {more : List (Option (TakenEnd Bundle Item))}
          → ((place : ℕ) (receipt : TakenEnd Bundle Item) → SitsAt inboxes place receipt → IsKeptAt more place receipt)
          → length more ≡ most_relays + 1
          → IsLaneMatched root (SitsAt relay_ends) (whole_end number watch owner (Lane receipt) put)
          → HaveMatched (k + 1) (slice_set relays k None) probes (slice_set more k (Some receipt))
      inner_matched {more} keep size lane = next sits
          (λ place other apart at.
          let kept = keep place other at in record {
            same = kept.same;
            sits = set_elsewhere more k place (Some receipt) apart ∙ kept.sits;
            lane = kept.lane;
            taken = kept.taken;
          })
          (λ lane is. record {
            receipt = receipt;
            sits = set_here more k (Some receipt) (omega (arith, few));
            is_lane = lane_left (linked k below).relay.source receipt lane (receipts sits).1 is;
            taken = λ p items. (
              λ same relay at.
                  subst (λ r. relay_taken r p ≡ items) (sits_alone relay_ends k
                  (whole_end number watch owner (Lane receipt) put) relay (sat sits) at) same,
              λ taken. taken (whole_end number watch owner (Lane receipt) put) (sat sits),
            );
          })
          (simp length-set size)
          (λ p leaf at past. refl)
          (record { rings = λ i d within. absurd (omega arith); lane = lane })
