-- A leaf stays at work.
use Rattle.wcp_relay.proofs.Words.{◌≡◌, ℕ, ◌<◌, true, Option, None, Some, List, [], ◌∷◌, ◌++◌, length, get_or, set, sym}
use Rattle.wcp_relay.proofs.Words.{refl, ap, ◌∙◌, subst, AllPairs, IfNone, IfSome, ◌≢◌, ◌==◌, list_any, All-set, Item}
use Rattle.wcp_relay.proofs.Words.{Feed, Outlet, fed, items_of, IsInOrder, IsNextAfterNotes, given_by, handed, IsSound}
use Rattle.wcp_relay.proofs.Words.{IsNextItem, IsNextAfter, IsSameOutlet, IsLeafAtWork}
use Rattle.std.specs.FinSet as sets
use Rattle.wcp_relay.proofs.Fed.{fed-at, fed-set, fed-quiet, next_by, processes-set, process_served}
use Rattle.wcp_relay.proofs.Faithful.{faithful_more, faithful_same, only_none}
use Rattle.wcp_relay.proofs.Passing.{if_none}

pub if_some : {A : Type 0} (P : A → Type 0) (o : Option A) (x : A) → o ≡ Some x → IfSome o P → P x
if_some P o x is given = subst (λ (q : Option _). IfSome q P) is given

pub leaf_owned : (feeds : List Feed) (i : ℕ) (d : Feed) (outlet : Outlet) (p : ℕ) → IsLeafAtWork feeds outlet
    → i < length feeds → p ≡ (get_or feeds i d).process
    → sets.contains outlet.putter.members p ≡ true
leaf_owned feeds i d outlet p work below is = ap (sets.contains outlet.putter.members) is
    ∙ work.served (get_or feeds i d).process ∙ process_served feeds i d below

pub leaf_next : (feeds : List Feed) (i : ℕ) (d : Feed) (outlet : Outlet) (item : Item) → IsLeafAtWork feeds outlet
    → i < length feeds
    → item.from ≡ (get_or feeds i d).process → IsNextAfterNotes (given_by (get_or feeds i d)) item.note
    → IfNone outlet.cut (IsNextItem (handed outlet) item)
leaf_next feeds i d outlet item work below from next =
    only_none _ outlet.cut (λ none.
    let q = (get_or feeds i d).process in
    let all = ap (λ p. items_of p (handed outlet)) from ∙ if_none _ outlet.cut none work.faithful.whole q
    ∙ fed-at feeds i d below work.apart in
    subst (λ xs. IsNextAfter xs item) (sym all) (next_by q (given_by (get_or feeds i d)) item next))

-- a feed took a note, and the outlet was handed it
pub leaf_taken : (feeds : List Feed) (i : ℕ) (new d : Feed) (old next : Outlet) (item : Item) → IsLeafAtWork feeds old
    → i < length feeds
    → new.process ≡ (get_or feeds i d).process → given_by new ≡ given_by (get_or feeds i d) ++ item.note ∷ []
    → item.from ≡ (get_or feeds i d).process → IsInOrder new
    → IsSameOutlet old next → IsSound next
    → IfNone next.cut ((old.cut ≡ None) × (handed next ≡ handed old ++ item ∷ []))
    → IfSome next.cut (λ cut. handed next ≡ handed old)
    → IsLeafAtWork (set feeds i new) next
leaf_taken feeds i new d old next item work below same taken from order outlet sound passed let_go =
    let processes = processes-set feeds i new d same in
    record {
      apart = subst (AllPairs (λ p q. p ≢ q)) (sym processes) work.apart;
      served = λ p. ap (λ m. sets.contains m p) outlet.1 ∙ work.served p ∙ ap (list_any (λ q. q == p)) (sym processes);
      in_order = All-set IsInOrder feeds i new order work.in_order;
      sound = sound;
      faithful = faithful_more (fed feeds) (fed (set feeds i new)) old next item work.faithful
          (fed-set feeds i new d item below work.apart same taken from) passed let_go;
    }

-- a feed had no note
pub leaf_quiet : (feeds : List Feed) (i : ℕ) (new d : Feed) (outlet : Outlet) → IsLeafAtWork feeds outlet
    → new.process ≡ (get_or feeds i d).process → given_by new ≡ given_by (get_or feeds i d) → IsInOrder new
    → IsLeafAtWork (set feeds i new) outlet
leaf_quiet feeds i new d outlet work same taken order =
    let processes = processes-set feeds i new d same in
    record {
      apart = subst (AllPairs (λ p q. p ≢ q)) (sym processes) work.apart;
      served = λ p. work.served p ∙ ap (list_any (λ q. q == p)) (sym processes);
      in_order = All-set IsInOrder feeds i new order work.in_order;
      sound = work.sound;
      faithful = faithful_same (fed feeds) (fed (set feeds i new)) outlet outlet work.faithful
          (λ p. fed-quiet feeds i new d p same taken) refl (λ none. none);
    }

-- the outlet passed on what it holds
pub leaf_passed : (feeds : List Feed) (old new : Outlet) → IsLeafAtWork feeds old → IsSameOutlet old new → IsSound new
    → handed new ≡ handed old → (new.cut ≡ None → old.cut ≡ None)
    → IsLeafAtWork feeds new
leaf_passed feeds old new work outlet sound same uncut =
    record {
      apart = work.apart;
      served = λ p. ap (λ m. sets.contains m p) outlet.1 ∙ work.served p;
      in_order = work.in_order;
      sound = sound;
      faithful = faithful_same (fed feeds) (fed feeds) old new work.faithful (λ p. refl) same uncut;
    }
