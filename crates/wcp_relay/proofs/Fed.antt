-- What feeds took, as one of them takes a note.
use Rattle.wcp_relay.proofs.Words.{◌≡◌, ◌≢◌, ℕ, zero, suc, ◌<◌, Bool, true, false, ◌||◌, List, [], ◌∷◌, ◌++◌, length}
use Rattle.wcp_relay.proofs.Words.{get_or, set, map, sym, refl, ap, ◌∙◌, subst, eq-eqb, arith, All, AllPairs}
use Rattle.wcp_relay.proofs.Words.{if◌then◌else◌, ◌==◌, list_any, list_any_at, nat_tests, append-nil, length-map}
use Rattle.wcp_relay.proofs.Words.{map-append, get_or-map, All-map, map-set_same, Item, Note, is_last, Feed, fed}
use Rattle.wcp_relay.proofs.Words.{items_by, items_of, processes_of, IsNextAfterNotes, IsNextOfProcess, IsInOrder}
use Rattle.wcp_relay.proofs.Words.{given_by, EndsWithLast, Outlet, IsNextAfter, IsFaithful, HasMetGap, CameFromRing}
use Rattle.wcp_relay.proofs.Words.{AreFromRings, is_gap_of, All-weaker, None, Some, ne_eqb}

abbrev AreApart : List ℕ → Type 0
AreApart numbers = AllPairs (λ p q. p ≢ q) numbers

-- the process at a place
process_at : (feeds : List Feed) (i : ℕ) (d : Feed) → i < length feeds
    → get_or (processes_of feeds) i d.process ≡ (get_or feeds i d).process
process_at feeds i d below = get_or-map (λ (f : Feed). f.process) feeds i d d.process below

module _ (f : Feed) (fs : List Feed) (apart : AreApart (processes_of (f ∷ fs))) where
  rest_apart : AreApart (processes_of fs)
  rest_apart i j d before below = apart (suc i) (suc j) d (omega arith) (omega arith)

  first_apart : (i : ℕ) (d : Feed) → i < length fs → f.process ≢ (get_or fs i d).process
  first_apart i d below same =
      apart 0 (suc i) d.process (omega arith) (let long = length-map fs (λ (g : Feed). g.process) in omega arith)
      (same ∙ sym (process_at fs i d below))

-- the feed of a process took what was taken of it
pub fed-at : (feeds : List Feed) (i : ℕ) (d : Feed) → i < length feeds → AreApart (processes_of feeds)
    → fed feeds (get_or feeds i d).process ≡ items_by (get_or feeds i d).process (given_by (get_or feeds i d))
fed-at [] i d below apart = absurd (omega arith)
fed-at (f ∷ fs) zero d below apart = grind (arith, nat_tests)
fed-at (f ∷ fs) (suc i) d below apart =
    let other = first_apart f fs apart i d (omega arith) in
    let rest = fed-at fs i d (omega arith) (rest_apart f fs apart) in
    grind (arith, nat_tests)

pub item_is : (item : Item) (p : ℕ) → item.from ≡ p → record { from = p; note = item.note } ≡ item
item_is item p from = λ i. record { from = sym from i; note = item.note }

-- the processes are as before
pub processes-set : (feeds : List Feed) (i : ℕ) (new d : Feed) → new.process ≡ (get_or feeds i d).process
    → processes_of (set feeds i new) ≡ processes_of feeds
processes-set feeds i new d same = map-set_same (λ (f : Feed). f.process) feeds i new d same

-- a feed took one note more
pub fed-set : (feeds : List Feed) (i : ℕ) (new d : Feed) (item : Item) → i < length feeds
    → AreApart (processes_of feeds)
    → new.process ≡ (get_or feeds i d).process → given_by new ≡ given_by (get_or feeds i d) ++ item.note ∷ []
    → item.from ≡ (get_or feeds i d).process
    → (p : ℕ) → fed (set feeds i new) p ≡ fed feeds p ++ items_of p (item ∷ [])
fed-set [] i new d item below apart same taken from p = absurd (omega arith)
fed-set (f ∷ fs) zero new d item below apart same taken from p =
    let more = ap (items_by p) taken
    ∙ map-append (λ (n : Note). record { from = p; note = n }) (given_by f) (item.note ∷ []) in
    let own = item_is item p in
    let none = append-nil (fed fs p) in
    grind (arith, nat_tests)
fed-set (f ∷ fs) (suc i) new d item below apart same taken from p =
    let other = first_apart f fs apart i d (omega arith) in
    let rest = fed-set fs i new d item (omega arith) (rest_apart f fs apart) same taken from p in
    let none = append-nil (items_by p (given_by f)) in
    grind (arith, nat_tests)

-- the next note of a process is the next item after its notes as items
pub next_by : (p : ℕ) (before : List Note) (item : Item) → IsNextAfterNotes before item.note
    → IsNextAfter (items_by p before) item
next_by p before item next =
    record {
      numbered = next.numbered ∙ sym (length-map before (λ (n : Note). record { from = p; note = n }));
      unended = All-map (λ (i : Item). is_last i.note ≡ false)
          (λ (n : Note). record { from = p; note = n }) before next.unended;
    }

pub next_back : (p : ℕ) (before : List Note) (item : Item) → IsNextAfter (items_by p before) item
    → IsNextAfterNotes before item.note
next_back p before item next =
    let f : Note → Item = λ n. record { from = p; note = n } in
    let long : length (map f before) ≡ length before = length-map before f in
    record {
      numbered = next.numbered ∙ long;
      unended = λ k d below.
          subst (λ (i : Item). is_last i.note ≡ false) (get_or-map f before k d (f d) below)
          (next.unended k (f d) (omega arith));
    }

-- a note came that isn't the next one
pub fed-gap : (feeds : List Feed) (i : ℕ) (new d : Feed) (note : Note) (outlet : Outlet) → i < length feeds
    → AreApart (processes_of feeds)
    → new.process ≡ (get_or feeds i d).process → given_by new ≡ given_by (get_or feeds i d) ++ note ∷ []
    → (IsNextOfProcess (given_by (get_or feeds i d)) note → ⊥) → IsFaithful (fed feeds) outlet
    → HasMetGap (record { process = (get_or feeds i d).process; cut = outlet.cut }) (fed (set feeds i new)) outlet
fed-gap feeds i new d note outlet below apart same taken not_next faithful =
    let old = get_or feeds i d in
    let item : Item = record { from = old.process; note = note } in
    record {
      before = fed feeds;
      item = item;
      from = refl;
      latest = fed-set feeds i new d item below apart same taken refl;
      out_of_place = λ next may_come. not_next (record {
        next = next_back old.process (given_by old) item
            (subst (λ xs. IsNextAfter xs item) (fed-at feeds i d below apart) next);
        may_come = may_come;
      });
      faithful = faithful;
      not_since = refl;
    }

-- what feeds in order took came out of their rings
pub rings_in_order : (feeds : List Feed) → All IsInOrder feeds → AreFromRings None feeds
rings_in_order feeds order =
    All-weaker IsInOrder (λ (f : Feed). CameFromRing false f.taker.taken) (λ f is. is.from_ring) feeds order

-- what the feed of another process took came out of its ring
from_other : (gap : ℕ) (feed : Feed) → gap ≢ feed.process → IsInOrder feed
    → CameFromRing (is_gap_of (Some gap) feed.process) feed.taker.taken
from_other gap feed other order =
    subst (λ b. CameFromRing b feed.taker.taken) (sym (ne_eqb gap feed.process other)) order.from_ring

-- what feeds took came out of their rings, where one of them met a gap
pub rings_at_gap : (feeds : List Feed) (i : ℕ) (new d : Feed) → i < length feeds → AreApart (processes_of feeds)
    → All IsInOrder feeds → new.process ≡ (get_or feeds i d).process → CameFromRing true new.taker.taken
    → AreFromRings (Some (get_or feeds i d).process) (set feeds i new)
rings_at_gap [] i new d below apart order same came k e within = absurd (omega arith)
rings_at_gap (f ∷ fs) zero new d below apart order same came zero e within =
    subst (λ b. CameFromRing b new.taker.taken) (sym (eq-eqb f.process new.process (sym same))) came
rings_at_gap (f ∷ fs) zero new d below apart order same came (suc k) e within =
    from_other f.process (get_or fs k e) (first_apart f fs apart k e (omega arith)) (order (suc k) e (omega arith))
rings_at_gap (f ∷ fs) (suc i) new d below apart order same came zero e within =
    from_other (get_or fs i d).process f (λ is. first_apart f fs apart i d (omega arith) (sym is))
    (order 0 f (omega arith))
rings_at_gap (f ∷ fs) (suc i) new d below apart order same came (suc k) e within =
    rings_at_gap fs i new d (omega arith) (rest_apart f fs apart)
    (λ j g below. order (suc j) g (omega arith)) same came k e (omega arith)

-- a feed took nothing
pub fed-quiet : (feeds : List Feed) (i : ℕ) (new d : Feed) (p : ℕ) → new.process ≡ (get_or feeds i d).process
    → given_by new ≡ given_by (get_or feeds i d)
    → fed (set feeds i new) p ≡ fed feeds p
fed-quiet [] i new d p same taken = refl
fed-quiet (f ∷ fs) zero new d p same taken = λ j. if same j == p then items_by p (taken j) else fed fs p
fed-quiet (f ∷ fs) (suc i) new d p same taken =
    ap (λ xs. if f.process == p then items_by p (given_by f) else xs) (fed-quiet fs i new d p same taken)

-- the process of a feed is one of those served
pub process_served : (feeds : List Feed) (i : ℕ) (d : Feed) → i < length feeds
    → list_any (λ q. q == (get_or feeds i d).process) (processes_of feeds) ≡ true
process_served feeds i d below =
    let long = length-map feeds (λ (f : Feed). f.process) in
    list_any_at (λ q. q == (get_or feeds i d).process) (processes_of feeds) i d.process (omega arith)
    (eq-eqb _ _ (process_at feeds i d below))

-- where each feed is closed, what was taken of each process that is served ends with a last note
pub all_ended : (feeds : List Feed) → All (λ (f : Feed). f.ended ≡ true) feeds → All IsInOrder feeds → (p : ℕ)
    → list_any (λ q. q == p) (processes_of feeds) ≡ true
    → EndsWithLast (fed feeds p)
all_ended [] closed order p served = cc
all_ended (f ∷ fs) closed order p served =
    let last = (order 0 f (omega arith)).ended (closed 0 f (omega arith)) in
    let whole = ap (items_by p) last.2
    ∙ map-append (λ (n : Note). record { from = p; note = n }) last.0 (last.1 ∷ []) in
    let own : EndsWithLast (items_by p (given_by f)) =
    (items_by p last.0, record { from = p; note = last.1 }, whole, last.3) in
    let rest =
    all_ended fs (λ k d below. closed (suc k) d (omega arith)) (λ k d below. order (suc k) d (omega arith)) p in
    either (f.process == p) own rest served
  where
    either : (b : Bool) → EndsWithLast (items_by p (given_by f))
        → (list_any (λ q. q == p) (processes_of fs) ≡ true → EndsWithLast (fed fs p))
        → (b || list_any (λ q. q == p) (processes_of fs)) ≡ true
        → EndsWithLast (if b then items_by p (given_by f) else fed fs p)
    either true own rest served = own
    either false own rest served = rest served
