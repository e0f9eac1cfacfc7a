-- A relay with a lane stays at work.
use Rattle.wcp_relay.proofs.Words.{◌≡◌, ◌≢◌, ℕ, suc, true, false, true≢false, None, List, [], ◌∷◌, ◌++◌, sym, ap, ◌∙◌}
use Rattle.wcp_relay.proofs.Words.{subst, refl, append_assoc, ⊎_elim, arith, All, IfNone, nat_cmp, cases_eq, nat_tests}
use Rattle.wcp_relay.proofs.Words.{append-nil, Item, is_last, TakeEnd, Numbers, Bundle, Outlet, items_of, EndsWithLast}
use Rattle.wcp_relay.proofs.Words.{handed, IsFaithful, IsSound, AreTakenNext, IsSameOutlet, IsInnerAtWork}
use Rattle.wcp_relay.proofs.Words.{ItemsMayFollow, AreEnded}
use Rattle.std.specs.FinSet as set
use Rattle.wcp_clock.proofs.Marks.{contains_with}
use Rattle.wcp_relay.proofs.Accepting.{ItemMayFollow, follow_same}
use Rattle.wcp_relay.proofs.Lists.{items_of-append, items_of-own, items_of-other}
use Rattle.wcp_relay.proofs.Faithful.{faithful_same, only_none}
use Rattle.wcp_relay.proofs.Passing.{if_none}

pub inner_follows : (taker : TakeEnd Bundle Item) (outlet : Outlet) (items : List Item) → IsInnerAtWork taker outlet
    → AreTakenNext taker items
    → IfNone outlet.cut (ItemsMayFollow outlet.putter.members (handed outlet) items)
inner_follows taker outlet items work next =
    only_none _ outlet.cut (λ none. follow_same taker.members outlet.putter.members taker.taken
    (handed outlet) items work.among (λ p. if_none _ outlet.cut none work.faithful.whole p) next)

-- a bundle was taken, and the outlet was handed it
pub inner_taken : (old new : TakeEnd Bundle Item) (outlet more : Outlet) (items : List Item) → IsInnerAtWork old outlet
    → new ≡ record old { taken = old.taken ++ items }
    → IsSameOutlet outlet more → IsSound more
    → ((taken : ℕ → List Item) → IsFaithful taken outlet → IsFaithful (λ p. taken p ++ items_of p items) more)
    → IsInnerAtWork new more
inner_taken old new outlet more items work is same sound faithful =
    record {
      among = λ p own. ap (λ m. set.contains m p) same.1
          ∙ work.among p (sym (ap (λ (e : TakeEnd Bundle Item). set.contains e.members p) is) ∙ own);
      sound = sound;
      faithful = faithful_same (λ p. items_of p old.taken ++ items_of p items) (λ p. items_of p new.taken) more more
          (faithful (λ p. items_of p old.taken) work.faithful)
          (λ p. ap (λ (e : TakeEnd Bundle Item). items_of p e.taken) is ∙ items_of-append p old.taken items) refl
          (λ none. none);
    }

-- nothing was taken, and the outlet passed on what it holds
pub inner_passed : (old new : TakeEnd Bundle Item) (outlet more : Outlet) → IsInnerAtWork old outlet → new ≡ old
    → IsSameOutlet outlet more → IsSound more
    → handed more ≡ handed outlet → (more.cut ≡ None → outlet.cut ≡ None) → IsInnerAtWork new more
inner_passed old new outlet more work is same sound whole uncut =
    record {
      among = λ p own. ap (λ m. set.contains m p) same.1
          ∙ work.among p (sym (ap (λ (e : TakeEnd Bundle Item). set.contains e.members p) is) ∙ own);
      sound = sound;
      faithful = faithful_same (λ p. items_of p old.taken) (λ p. items_of p new.taken) outlet more work.faithful
          (λ p. ap (λ (e : TakeEnd Bundle Item). items_of p e.taken) is) whole uncut;
    }

last_of_all : (before : List Item) (item : Item) → All (λ (i : Item). is_last i.note ≡ false) (before ++ item ∷ [])
    → is_last item.note ≡ false
last_of_all [] item all = all 0 item (omega arith)
last_of_all (b ∷ before) item all = last_of_all before item (λ k d below. all (suc k) d (omega arith))

ended_not_next : (items : List Item) → EndsWithLast items → All (λ (i : Item). is_last i.note ≡ false) items → ⊥
ended_not_next items ended all =
    true≢false
    (sym ended.3 ∙ last_of_all ended.0 ended.1 (subst (All (λ (i : Item). is_last i.note ≡ false)) ended.2 all))

-- what ended with a close mark stays so as an item more is taken
ended_step : (closed members : Numbers) (before : List Item) (item : Item) → AreEnded closed (λ p. items_of p before)
    → ItemMayFollow members before item
    → AreEnded closed (λ p. items_of p (before ++ item ∷ []))
ended_step closed members before item ended next p own =
    ⊎_elim
    (λ (here : p ≡ item.from).
    absurd (ended_not_next (items_of item.from before)
    (subst (λ q. EndsWithLast (items_of q before)) here (ended p own)) next.next.unended))
    (λ (apart : p ≢ item.from).
    subst EndsWithLast (sym (items_of-append p before (item ∷ []) ∙ ap (λ xs. items_of p before ++ xs)
    (items_of-other p item (λ e. apart (sym e))) ∙ append-nil (items_of p before))) (ended p own))
    (cases_eq p item.from)

ended_all : (closed members : Numbers) (before items : List Item) → AreEnded closed (λ p. items_of p before)
    → ItemsMayFollow members before items
    → AreEnded closed (λ p. items_of p (before ++ items))
ended_all closed members before [] ended follow =
    subst (λ xs. AreEnded closed (λ p. items_of p xs)) (sym (append-nil before)) ended
ended_all closed members before (x ∷ xs) ended follow =
    subst (λ ys. AreEnded closed (λ p. items_of p ys)) (append_assoc before (x ∷ []) xs)
    (ended_all closed members (before ++ x ∷ []) xs (ended_step closed members before x ended follow.0) follow.1)

-- what ended with a close mark stays so as a bundle more is taken
pub ended_kept : (closed : Numbers) (old new : TakeEnd Bundle Item) (items : List Item)
    → AreEnded closed (λ p. items_of p old.taken) → AreTakenNext old items
    → new ≡ record old { taken = old.taken ++ items } → AreEnded closed (λ p. items_of p new.taken)
ended_kept closed old new items ended next is =
    subst (λ (e : TakeEnd Bundle Item). AreEnded closed (λ p. items_of p e.taken)) (sym is)
    (ended_all closed old.members old.taken items ended next)

inserted : (closed : Numbers) (p q : ℕ) → p ≢ q → set.contains (set.insert closed q) p ≡ set.contains closed p
inserted closed p q apart = grind (arith, nat_tests, contains_with closed q p)

-- a bundle that ends with a close mark was taken
pub ended_more : (closed : Numbers) (old new : TakeEnd Bundle Item) (items front : List Item) (end : Item)
    → AreEnded closed (λ p. items_of p old.taken) → AreTakenNext old items
    → new ≡ record old { taken = old.taken ++ items } → items ≡ front ++ end ∷ [] → is_last end.note ≡ true
    → AreEnded (set.insert closed end.from) (λ p. items_of p new.taken)
ended_more closed old new items front end ended next is last close p own =
    ⊎_elim
    (λ (here : p ≡ end.from). (
      items_of p (old.taken ++ front),
      end,
      ap (λ (e : TakeEnd Bundle Item). items_of p e.taken) is
          ∙ ap (λ xs. items_of p (old.taken ++ xs)) last
          ∙ ap (items_of p) (sym (append_assoc old.taken front (end ∷ [])))
          ∙ items_of-append p (old.taken ++ front) (end ∷ [])
          ∙ ap (λ xs. items_of p (old.taken ++ front) ++ xs) (items_of-own p end (sym here)),
      close,
    ))
    (λ (apart : p ≢ end.from).
    ended_kept closed old new items ended next is p (sym (inserted closed p end.from apart) ∙ own))
    (cases_eq p end.from)

pub none_ended : (taken : ℕ → List Item) (closed : Numbers) → closed ≡ set.empty → AreEnded closed taken
none_ended taken closed none p own =
    absurd (true≢false (sym own ∙ ap (λ (s : Numbers). set.contains s p) none ∙ set.contains-empty nat_cmp p))
