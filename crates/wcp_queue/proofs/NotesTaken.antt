use Rattle.wcp_queue.proofs.Words.{◌≡◌, ◌≢◌, ℕ, Bool, true, false, List, [], ◌∷◌, ◌++◌, ◌<◌, refl, sym, ◌∙◌, ap, subst}
use Rattle.wcp_queue.proofs.Words.{⊎_elim, arith, list_any, cases_eq, false≢true, map-append, append-nil, filter-append}
use Rattle.wcp_queue.proofs.Words.{list_any-append, ◌||◌, Item, Snap, Close, Lost, is_close, is_last, is_lost}
use Rattle.wcp_queue.proofs.Words.{notes_taken, clocks_taken, IsNextNote, AreInTurn, snapshot_clocks-append}
use Rattle.wcp_queue.proofs.Words.{AreInTurn-push, CheckerState, processes, StandsForItems, MayTake, GainCandidate}
use Rattle.wcp_clock.specs.declared.note.Note.{Note}

-- the notes taken of a process, after one more item of it or of another
pub notes_taken-push_same : (items : List Item) (item : Item) (p : ℕ) → item.from ≡ p
    → notes_taken p (items ++ item ∷ []) ≡ notes_taken p items ++ item.note ∷ []
notes_taken-push_same items item p same = grind (arith, filter-append, map-append)

pub notes_taken-push_other : (items : List Item) (item : Item) (p : ℕ) → item.from ≢ p
    → notes_taken p (items ++ item ∷ []) ≡ notes_taken p items
notes_taken-push_other items item p other = grind (arith, append-nil, filter-append)

-- each process's notes stay in turn
pub in_turn-push : (items : List Item) (item : Item) (p : ℕ) → IsNextNote (notes_taken item.from items) item.note
    → AreInTurn (notes_taken p items) → AreInTurn (notes_taken p (items ++ item ∷ []))
in_turn-push items item p next turn = ⊎_elim
    (λ (same : item.from ≡ p). subst AreInTurn (sym (notes_taken-push_same items item p same)) (AreInTurn-push
    (notes_taken p items) item.note turn (subst (λ q. IsNextNote (notes_taken q items) item.note) same next)))
    (λ (other : item.from ≢ p). subst AreInTurn (sym (notes_taken-push_other items item p other)) turn)
    (cases_eq item.from p)

-- a last note is a close mark or the mark of a lost process
any_last : (notes : List Note) → list_any is_last notes ≡ (list_any is_close notes || list_any is_lost notes)
any_last [] = refl
any_last (Snap number clock ∷ notes) = any_last notes
any_last (Close count ∷ notes) = refl
any_last (Lost count ∷ notes) = grind arith

neither : (a b : Bool) → a ≡ false → b ≡ false → (a || b) ≡ false
neither false b na nb = nb
neither true b na nb = na

neither_left : (a b : Bool) → (a || b) ≡ false → a ≡ false
neither_left false b is = refl
neither_left true b is = is

neither_right : (a b : Bool) → (a || b) ≡ false → b ≡ false
neither_right false b is = is
neither_right true b is = absurd (false≢true (sym is))

-- a checker may take an item exactly where its note is the next after those taken of its process
pub MayTake-next : (checker : CheckerState) (items : List Item) (item : Item) → StandsForItems checker items
    → item.from < processes checker → IsNextNote (notes_taken item.from items) item.note → MayTake checker item
MayTake-next checker items item stands within next =
    let ends : (list_any is_close (notes_taken item.from items) || list_any is_lost (notes_taken item.from items))
    ≡ false = sym (any_last (notes_taken item.from items)) ∙ next.still_open in
    record {
      from = within;
      place = next.place ∙ sym (stands.taken item.from within);
      still_open = stands.closed item.from within ∙ neither_left _ _ ends;
      not_lost = stands.lost item.from within ∙ neither_right _ _ ends;
    }

pub next_where_MayTake : (checker : CheckerState) (items : List Item) (item : Item) → StandsForItems checker items
    → MayTake checker item → IsNextNote (notes_taken item.from items) item.note
next_where_MayTake checker items item stands may = record {
  place = may.place ∙ stands.taken item.from may.from;
  still_open = any_last (notes_taken item.from items)
      ∙ neither _ _ (sym (stands.closed item.from may.from) ∙ may.still_open)
      (sym (stands.lost item.from may.from) ∙ may.not_lost);
}

-- a snapshot's clock comes at the end of its process's row, and the other rows stay
pub GainCandidate-snapshot : (n : ℕ) (items : List Item) (p number : ℕ) (clock : List ℕ) → GainCandidate n p clock
    (λ q. clocks_taken q items) (λ q. clocks_taken q (items ++ record { from = p; note = Snap number clock } ∷ []))
GainCandidate-snapshot n items p number clock =
    grind (arith, notes_taken-push_other, notes_taken-push_same, snapshot_clocks-append)

-- a last note leaves every row
pub clocks_taken-push_last : (items : List Item) (p q : ℕ) (note : Note) → is_last note ≡ true
    → clocks_taken q (items ++ record { from = p; note = note } ∷ []) ≡ clocks_taken q items
clocks_taken-push_last items p q (Snap number clock) last = cc
clocks_taken-push_last items p q (Close count) last =
    grind (arith, append-nil, notes_taken-push_other, notes_taken-push_same, snapshot_clocks-append)
clocks_taken-push_last items p q (Lost count) last =
    grind (arith, append-nil, notes_taken-push_other, notes_taken-push_same, snapshot_clocks-append)

-- a kind of note was taken of a process, after one more note: of that process and kind, of another process, or of
-- another
-- kind
pub taken_kind-own : (is_kind : Note → Bool) (items : List Item) (p : ℕ) (note : Note) → is_kind note ≡ true
    → list_any is_kind (notes_taken p (items ++ record { from = p; note = note } ∷ [])) ≡ true
taken_kind-own is_kind items p note is = grind (arith, list_any-append, notes_taken-push_same)

pub taken_kind-other : (is_kind : Note → Bool) (items : List Item) (p q : ℕ) (note : Note) → q ≢ p
    → list_any is_kind (notes_taken q (items ++ record { from = p; note = note } ∷ [])) ≡ list_any is_kind
    (notes_taken q items)
taken_kind-other is_kind items p q note other = grind (arith, notes_taken-push_other)

pub taken_kind-unlike : (is_kind : Note → Bool) (items : List Item) (p q : ℕ) (note : Note) → is_kind note ≡ false
    → list_any is_kind (notes_taken q (items ++ record { from = p; note = note } ∷ [])) ≡ list_any is_kind
    (notes_taken q items)
taken_kind-unlike is_kind items p q note not =
    grind (arith, list_any-append, notes_taken-push_other, notes_taken-push_same, cases_eq p q)

-- where a close mark was taken, it stands at a place among the notes
pub close_mark_in : (notes : List Note) → list_any is_close notes ≡ true
    → (count : ℕ) × (before : List Note) × (after : List Note) × (notes ≡ before ++ Close count ∷ after)
close_mark_in [] none = absurd (false≢true none)
close_mark_in (Snap number clock ∷ notes) some =
    let (count, before, after, is) = close_mark_in notes some in
    (count, Snap number clock ∷ before, after, ap (λ rest. Snap number clock ∷ rest) is)
close_mark_in (Close count ∷ notes) some = (count, [], notes, refl)
close_mark_in (Lost lost ∷ notes) some =
    let (count, before, after, is) = close_mark_in notes some in
    (count, Lost lost ∷ before, after, ap (λ rest. Lost lost ∷ rest) is)

pub close_mark_taken : (notes before : List Note) (count : ℕ) → notes ≡ before ++ Close count ∷ []
    → list_any is_close notes ≡ true
close_mark_taken notes before count is = grind (arith, list_any-append)

-- the clocks taken of a process from items and from more after them
pub clocks_taken-append : (items more : List Item) (p : ℕ)
    → clocks_taken p (items ++ more) ≡ clocks_taken p items ++ clocks_taken p more
clocks_taken-append items more p = grind (arith, filter-append, map-append, snapshot_clocks-append)
