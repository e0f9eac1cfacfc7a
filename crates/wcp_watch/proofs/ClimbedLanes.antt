-- The climb of what a probe put, from lane to lane up to the checker.
use Rattle.wcp_watch.proofs.Words.{◌≡◌, ◌≢◌, ◌==◌, ℕ, zero, suc, ◌<◌, true, false, List, [], ◌∷◌, map, Option, Some}
use Rattle.wcp_watch.proofs.Words.{None, refl, sym, ap, ◌∙◌, ⊎_elim, arith, slice_get, get_or, All, list_any, cases_eq}
use Rattle.wcp_watch.proofs.Words.{Item, Note, notes_taken, is_leaf, parent_of, Parent, attached_exists, has_leaf}
use Rattle.wcp_watch.proofs.Words.{is_its_leaf, parent_below, TakenEnd, Numbers, Bundle, Serves, fed, given_by}
use Rattle.wcp_watch.proofs.Words.{items_by, items_of, processes_of, ClosedSide, IsLeftOf, IsReceiptOf, outcome_fault}
use Rattle.wcp_watch.proofs.Words.{outcome_put, outcome_taken, relay_put, relay_taken, taken_in, IsSource, Feed}
use Rattle.wcp_watch.proofs.Words.{Receipts, Feeds, Lane, RelayEnd, RelayOutcome, Whole, Source, Leaf, Inner}
use Rattle.wcp_watch.proofs.Words.{AreEndsThere}
use Rattle.wcp_watch.proofs.Words.{AreFirstMatched, SitsAt, AreTakenFrom, IsPutMatched, IsRingMatched, feeds_in}
use Rattle.wcp_watch.proofs.Words.{feeds_left_by}
use Rattle.std.specs.FinSet as set
use Rattle.std.proofs.lemmas.Bool.Decides.{nat_tests}
use Rattle.wcp_model.specs.declared.plan.Parent.TheVariants as parent
use Rattle.wcp_relay.specs.Members.{IsBelow, Itself}
use Rattle.wcp_relay.specs.declared.relay.Relay.{Relay}
use Rattle.wcp_relay.specs.declared.relay_end.RelayOutcome.TheVariants.{Faulted}
use Rattle.wcp_relay.proofs.Parents.{members_pass_up}
use Rattle.wcp_relay.proofs.Ordering.{given_is_taken}
use Rattle.wcp_watch.proofs.MatchedLinks.{linked, receipts_of}

-- the items of a process, and their notes
notes_back : (p : ℕ) (notes : List Note) → map (λ (item : Item). item.note) (items_by p notes) ≡ notes
notes_back p [] = refl
notes_back p (note ∷ notes) = λ i. note ∷ notes_back p notes i

-- where a process is served and each feed of it gave these notes, they were taken of it
fed_all : (p : ℕ) (notes : List Note) (feeds : List Feed) → list_any (λ q. q == p) (processes_of feeds) ≡ true
    → All (λ feed. feed.process ≡ p → given_by feed ≡ notes) feeds → fed feeds p ≡ items_by p notes
fed_all p notes [] served all = absurd (cc)
fed_all p notes (feed ∷ feeds) served all = ⊎_elim
    (λ (same : feed.process ≡ p).
    let own : (feed.process == p) ≡ true = grind (arith, nat_tests) in
    rw own (ap (items_by p) (all 0 feed (omega arith) same)))
    (λ (apart : feed.process ≢ p).
    let other : (feed.process == p) ≡ false = grind (arith, nat_tests) in
    rw other (fed_all p notes feeds (rw other at served) (λ i d within. all (suc i) d (omega arith))))
    (cases_eq feed.process p)

-- what a lane was matched for
lane_taken : (root : TakenEnd Bundle Item) (IsRelay : ℕ → RelayEnd → Type 0) (relay : Relay) (end : RelayOutcome)
    (p : ℕ)
    → outcome_fault end ≡ None
    → IsLeftOf relay end → set.contains relay.putter.members p ≡ true → IsPutMatched root IsRelay end
    → AreTakenFrom root IsRelay relay.parent p (outcome_put end p)
lane_taken root IsRelay relay (Whole owner taken put) p none receipts has matched =
    rw receipts.0 at (matched p (rw receipts.3 has))
lane_taken root IsRelay relay (Faulted fault source outlet met) p none receipts has matched = absurd (cc)

module _ {count : ℕ} {probe_ends : List (Option ClosedSide)} {root : TakenEnd Bundle Item}
    {relay_ends : List (Option RelayEnd)}
    (there : AreEndsThere count probe_ends root relay_ends) (matched : AreFirstMatched count probe_ends root relay_ends)
    (p : ℕ) (probe : ClosedSide) (sits : SitsAt probe_ends p probe) (within : p < there.plan.n) where
  abbrev emitted : List Item
  emitted = items_by p probe.link.put

  put_is_taken : (k : ℕ) (below : k < count)
      → relay_put (there.relay k below).end p ≡ relay_taken (there.relay k below).end p
  put_is_taken k below = let has = there.relay k below in rw has.whole at has.is_end.whole p

  -- the feed of a process took what its probe put
  feed_took : (leaf : ℕ) → is_leaf there.plan leaf ≡ true → (source : Source) (members : Numbers) (taken : Receipts)
      → IsSource there.plan there.wired.takers leaf source → Serves source members → set.contains members p ≡ true
      → IsReceiptOf source taken → All (IsRingMatched (SitsAt probe_ends)) (feeds_in taken) → taken_in taken p ≡ emitted
  feed_took leaf at (Leaf old parker) members (Feeds feeds) is serves has left rings =
      fed_all p probe.link.put feeds.items (ap (list_any (λ q. q == p)) left.0 ∙ sym (serves.2 p) ∙ has)
      (λ i d within same.
      let own = rings i d within in
      given_is_taken (get_or feeds.items i d) own.0 ∙ own.1 probe (ap (slice_get probe_ends) same ∙ sits))
  feed_took leaf at (Leaf old parker) members (Lane receipt) is serves has left rings = absurd left
  feed_took leaf at (Inner taker) members taken is serves has left rings = absurd (cc (at, is.0))

  leaf_took : (leaf : ℕ) → is_leaf there.plan leaf ≡ true → (relay : Relay) (end : RelayOutcome)
      → outcome_fault end ≡ None
      → IsLeftOf relay end → IsSource there.plan there.wired.takers leaf relay.source
      → set.contains relay.putter.members p ≡ true
      → All (IsRingMatched (SitsAt probe_ends)) (feeds_left_by end) → outcome_taken end p ≡ emitted
  leaf_took leaf at relay (Whole owner taken put) none receipts is has rings =
      feed_took leaf at relay.source relay.putter.members taken is relay.serves has receipts.1 rings
  leaf_took leaf at relay (Faulted fault source outlet met) none receipts is has rings = absurd (cc)

  -- from a relay that put it, it comes to the checker
  climbs : (bound from : ℕ) → from < bound → (below : from < count) → IsBelow there.plan from p
      → relay_put (there.relay from below).end p ≡ emitted → items_of p root.taken ≡ emitted
  climbs zero from less below is put = absurd (omega arith)
  climbs (suc bound) from less below is put =
      let has = there.relay from below in
      let link = linked there from below in
      by_owner (λ above lower. climbs bound above (omega (arith, lower, less))) link.relay.parent link.of_plan.parent
      (lane_taken root (SitsAt relay_ends) link.relay has.end.outcome p has.whole
      (receipts_of there from below has.end has.sits)
      ((link.of_plan.members p).1 is) (matched from has.end below has.sits).lane)
    where
      by_owner : ((above : ℕ) → above < from → (next : above < count) → IsBelow there.plan above p
          → relay_put (there.relay above next).end p ≡ emitted → items_of p root.taken ≡ emitted)
          → (owner : Parent) → parent_of there.plan from ≡ Some owner
          → AreTakenFrom root (SitsAt relay_ends) owner p (relay_put (there.relay from below).end p)
          → items_of p root.taken ≡ emitted
      by_owner climb parent.Root at taken = taken ∙ put
      by_owner climb (parent.Relay above) at taken =
          let lower = parent_below there.plan there.checked from above at in
          let next : above < count = omega arith in
          let has = there.relay above next in
          climb above lower next (members_pass_up there.plan from above p at is)
          (put_is_taken above next ∙ taken has.end has.sits ∙ put)

  -- what the checker took of a process is what its probe put
  pub all_taken : notes_taken p root.taken ≡ probe.link.put
  all_taken =
      let (leaf, at) = has_leaf there.plan there.checked p within in
      let below : leaf < count = omega (arith, there.all, (attached_exists there.plan there.checked p leaf at).1) in
      let has = there.relay leaf below in
      let link = linked there leaf below in
      ap (map (λ (item : Item). item.note)) (climbs (suc leaf) leaf (omega arith) below (leaf, at, Itself)
      (put_is_taken leaf below
      ∙ leaf_took leaf (is_its_leaf there.plan there.checked p leaf at) link.relay has.end.outcome has.whole
      (receipts_of there leaf below has.end has.sits) link.of_plan.source
      ((link.of_plan.members p).1 (leaf, at, Itself))
      (matched leaf has.end below has.sits).rings))
      ∙ notes_back p probe.link.put
