-- How a relay begins and ends.
use Rattle.wcp_relay.proofs.Words.{◌≡◌, ℕ, suc, ◌<◌, true, true≢false, List, [], ◌∷◌, ◌++◌, length, get_or, sym, refl}
use Rattle.wcp_relay.proofs.Words.{ap, ◌∙◌, subst, append_assoc, arith, All, IfNone, IfErr, Result, Ok, Err, OnOk}
use Rattle.wcp_relay.proofs.Words.{append-nil, nil_from_length, All-nil, IsPrefix, Item, place_of, is_last, Feed}
use Rattle.wcp_relay.proofs.Words.{Outlet, Source, Leaf, Inner, fed, items_by, items_of, source_taken, Serves}
use Rattle.wcp_relay.proofs.Words.{IsNewFeed, IsInOrder, handed, AreItemsInSequence, IsSound, IsFaithful, IsLeafAtWork}
use Rattle.wcp_relay.proofs.Words.{IsAtWork, AreEnded, HasMetGap, HasEnded, IsEndOfSource, taken_in, Option, None, Some}
use Rattle.wcp_relay.proofs.Words.{Parent, PutEnd, Bundle, AreFromRings, IsFromRings, gap_met}
use Rattle.wcp_lane.specs.declared.fault.Cut.{Cut}
use Rattle.wcp_relay.specs.declared.feed.Gap.{Gap}
use Rattle.wcp_relay.specs.RelayEnds.{IsOutcomeFromRings, first_met}
use Rattle.wcp_relay.specs.declared.relay_end.RelayOutcome.TheVariants.{Whole}
use Rattle.wcp_relay.specs.declared.relay_end.Receipts.{Receipts}
use Rattle.wcp_relay.specs.declared.relay_end.Receipts.TheVariants.{Feeds, Lane}
use Rattle.wcp_relay.specs.declared.take_fault.TakeFault.{TakeFault}
use Rattle.wcp_relay.specs.declared.take_fault.TakeFault.TheVariants as fault
use Rattle.wcp_relay.proofs.Lists.{AreInSequence-none, items_of-append}
use Rattle.wcp_relay.proofs.Faithful.{only_none, prefix_same, prefix_more}
use Rattle.wcp_relay.proofs.Passing.{if_none}
use Rattle.wcp_relay.proofs.Fed.{all_ended, rings_in_order}
use Rattle.wcp_relay.proofs.Ordering.{given_is_taken}

sound_new : (outlet : Outlet) → 0 < outlet.hold.room → outlet.hold.items ≡ [] → handed outlet ≡ [] → IsSound outlet
sound_new outlet room held all =
    record {
      room = room;
      owned = rw held (All-nil _);
      runs = λ p. subst (λ xs. AreItemsInSequence (items_of p xs)) (sym all) (AreInSequence-none _ _);
    }

feed_new : (feed : Feed) → IsNewFeed feed → IsInOrder feed
feed_new feed new =
    let none = nil_from_length feed.taker.taken new.3 in
    record {
      run = rw (given_is_taken feed new.2, none) (AreInSequence-none place_of is_last);
      from_ring = rw none (All-nil _);
      counted = λ _. (new.2, new.0 ∙ sym new.3, rw none (All-nil _));
      ended = λ closed. absurd (true≢false (sym closed ∙ new.1));
    }

fed_new : (feeds : List Feed) → All IsNewFeed feeds → (p : ℕ) → fed feeds p ≡ []
fed_new [] new p = refl
fed_new (f ∷ fs) new p =
    let fresh = new 0 f (omega arith) in
    let none = ap (items_by p) (given_is_taken f fresh.2 ∙ nil_from_length f.taker.taken fresh.3) in
    let rest = fed_new fs (λ k d below. new (suc k) d (omega arith)) p in
    grind arith

faithful_new : (taken : ℕ → List Item) (outlet : Outlet) → ((p : ℕ) → taken p ≡ []) → handed outlet ≡ []
    → IsFaithful taken outlet
faithful_new taken outlet none all =
    let same : (p : ℕ) → items_of p (handed outlet) ≡ taken p = λ p. ap (items_of p) all ∙ sym (none p) in
    record {
      whole = only_none _ outlet.cut (λ _. same);
      prefix = λ p. prefix_same (items_of p (handed outlet)) (taken p) (same p);
    }

-- the source is a leaf with these feeds
abbrev IsLeafOf : Source → List Feed → Type 0
IsLeafOf (Leaf own sleeper) feeds = feeds ≡ own.items
IsLeafOf (Inner taker) feeds = ⊥

pub starts : (source : Source) (outlet : Outlet) → Serves source outlet.putter.members → 0 < outlet.hold.room
    → length outlet.hold.items ≡ 0 → length outlet.putter.put ≡ 0
    → IsAtWork source outlet
starts (Leaf feeds sleeper) outlet serves room held put =
    let held_none = nil_from_length outlet.hold.items held in
    let all : handed outlet ≡ [] = λ j. nil_from_length outlet.putter.put put j ++ held_none j in
    record {
      apart = serves.1;
      served = serves.2;
      in_order = λ k d below. feed_new (get_or feeds.items k d) (serves.0 k d below);
      sound = sound_new outlet room held_none all;
      faithful = faithful_new (fed feeds.items) outlet (fed_new feeds.items serves.0) all;
    }
starts (Inner taker) outlet serves room held put =
    let held_none = nil_from_length outlet.hold.items held in
    let all : handed outlet ≡ [] = λ j. nil_from_length outlet.putter.put put j ++ held_none j in
    record {
      among = serves.1;
      sound = sound_new outlet room held_none all;
      faithful = faithful_new (λ p. items_of p taker.taken) outlet
          (λ p. ap (items_of p) (nil_from_length taker.taken serves.0)) all;
    }

-- a prefix of what was handed over is what was put
pub put_front : (outlet : Outlet) (taken : List Item) (p : ℕ) → IsPrefix (items_of p (handed outlet)) taken
    → IsPrefix (items_of p outlet.putter.put) taken
put_front outlet taken p front =
    let split = items_of-append p outlet.putter.put outlet.hold.items in (
      items_of p outlet.hold.items ++ front.0,
      sym (append_assoc (items_of p outlet.putter.put) (items_of p outlet.hold.items) front.0)
          ∙ ap (λ xs. xs ++ front.0) (sym split) ∙ front.1,
    )

-- where nil_from_length is held, all was put
pub all_put : (taken : ℕ → List Item) (outlet : Outlet) → IsFaithful taken outlet
    → IfNone outlet.cut (outlet.hold.items ≡ [])
    → IfNone outlet.cut ((p : ℕ) → items_of p outlet.putter.put ≡ taken p)
all_put taken outlet faithful empty =
    only_none _ outlet.cut (λ none p.
    ap (items_of p)
    (sym (ap (λ xs. outlet.putter.put ++ xs) (if_none _ outlet.cut none empty) ∙ append-nil outlet.putter.put))
    ∙ if_none _ outlet.cut none faithful.whole p)

pub leaf_all_ended : (feeds : List Feed) (outlet : Outlet) → IsLeafAtWork feeds outlet
    → All (λ (f : Feed). f.ended ≡ true) feeds → AreEnded outlet.putter.members (fed feeds)
leaf_all_ended feeds outlet work closed p own = all_ended feeds closed work.in_order p (sym (work.served p) ∙ own)

-- a leaf took the close marks of all its processes, or met a gap
pub leaf_ended : (r : Result (Unit {0}) TakeFault) (source : Source) (feeds : List Feed) (outlet : Outlet)
    → IsLeafOf source feeds → OnOk r (IsLeafAtWork feeds outlet) → OnOk r (All (λ (f : Feed). f.ended ≡ true) feeds)
    → IfErr r (λ met. (gap : Gap) × (met ≡ fault.Gap gap) × HasMetGap gap (fed feeds) outlet) → HasEnded source outlet r
leaf_ended (Ok done) (Leaf own sleeper) feeds outlet is work closed gap = subst (λ fs. AreEnded outlet.putter.members
    (fed fs) × IsFaithful (fed fs) outlet) is (leaf_all_ended feeds outlet work closed, work.faithful)
leaf_ended (Err met) (Leaf own sleeper) feeds outlet is work closed gap = subst (λ m. HasEnded (Leaf own sleeper) outlet
    (Err m)) (sym gap.1) (subst (λ fs. HasMetGap gap.0 (fed fs) outlet) is gap.2)
leaf_ended r (Inner taker) feeds outlet is work closed gap = absurd is

-- however a relay ended, its outlet was handed a prefix of what it took
pub ended_prefix : (source : Source) (outlet : Outlet) (r : Result (Unit {0}) TakeFault) → HasEnded source outlet r
    → (p : ℕ) → IsPrefix (items_of p (handed outlet)) (source_taken source p)
ended_prefix source outlet (Ok all) ended p = ended.1.prefix p
ended_prefix (Leaf feeds sleeper) outlet (Err (fault.Gap q)) ended p =
    subst (IsPrefix (items_of p (handed outlet))) (sym (ended.latest p)) (prefix_more (items_of p (handed outlet))
    (ended.before p) (items_of p (ended.item ∷ [])) (ended.faithful.prefix p))
ended_prefix (Inner taker) outlet (Err (fault.Cut cut)) ended p = ended.prefix p
ended_prefix (Leaf feeds sleeper) outlet (Err (fault.Cut cut)) ended p = absurd ended
ended_prefix (Inner taker) outlet (Err (fault.Gap q)) ended p = absurd ended

-- what is left of a source took what it took
pub end_taken : (source : Source) (left : Receipts) → IsEndOfSource source left → (p : ℕ)
    → taken_in left p ≡ source_taken source p
end_taken (Leaf feeds sleeper) (Feeds left) is p = λ j. fed (is j).items p
end_taken (Inner taker) (Lane receipt) is p = ap (items_of p) is.3
end_taken (Leaf feeds sleeper) (Lane receipt) is p = absurd is
end_taken (Inner taker) (Feeds left) is p = absurd is

-- a leaf took what came out of its rings, however its taking ended
pub leaf_from_rings : (r : Result (Unit {0}) TakeFault) (feeds : List Feed) (outlet : Outlet)
    → OnOk r (IsLeafAtWork feeds outlet) → IfErr r (λ met. AreFromRings (gap_met (Err met)) feeds)
    → AreFromRings (gap_met r) feeds
leaf_from_rings (Ok all) feeds outlet work rings = rings_in_order feeds work.in_order
leaf_from_rings (Err met) feeds outlet work rings = rings

-- where no fault came first, no gap was met
pub no_gap : (cut : Option Cut) (met : Result (Unit {0}) TakeFault) → first_met cut met ≡ None → gap_met met ≡ None
no_gap cut (Ok all) none = refl
no_gap cut (Err (fault.Cut answer)) none = refl
no_gap (Some cut) (Err (fault.Gap p)) none = cc
no_gap None (Err (fault.Gap p)) none = cc

-- what is left of a source that met no gap came out of its rings
pub end_from_rings : (source : Source) (left : Receipts) (parent : Parent) (put : PutEnd Bundle Item)
    (met : Result (Unit {0}) TakeFault) → IsEndOfSource source left → gap_met met ≡ None → IsFromRings source met
    → IsOutcomeFromRings (Whole parent left put)
end_from_rings (Leaf feeds sleeper) (Feeds left) parent put met is none rings =
    subst (λ (gap : Option ℕ). AreFromRings gap left.items) none (rw is rings)
end_from_rings (Inner taker) (Lane receipt) parent put met is none rings = rings
end_from_rings (Leaf feeds sleeper) (Lane receipt) parent put met is none rings = absurd is
end_from_rings (Inner taker) (Feeds left) parent put met is none rings = absurd is
