-- Items that are read one after another.
use Rattle.trace_questions.proofs.Words.{◌≡◌, ℕ, ◌<◌, ◌+◌, List, [], ◌∷◌, ◌++◌, map, length, get_or, take, Option, Some}
use Rattle.trace_questions.proofs.Words.{None, refl, ap, ◌∙◌, add-one, zero, suc, arith, take-suc, map-append, ◌>>=◌}
use Rattle.trace_questions.proofs.Words.{all_read, ◌≤◌, take_all}

module _ {A B : Type 0} (read : A → Option B) where
  abbrev with_one : Option (List B) → B → Option (List B)
  with_one front one = front >>= λ all. Some (all ++ one ∷ [])

  -- What's read of one item more.
  read-push : (items : List A) (item : A) (one : B) → read item ≡ Some one
      → all_read read (items ++ item ∷ []) ≡ with_one (all_read read items) one
  read-push [] item one is = rw is refl
  read-push (first ∷ items) item one is = rw (read-push items item one is) (regroup (read first) (all_read read items))
    where
      regroup : (first : Option B) (front : Option (List B))
          → (first >>= λ item. with_one front one >>= λ items. Some (item ∷ items))
          ≡ with_one (first >>= λ item. front >>= λ items. Some (item ∷ items)) one
      regroup None front = refl
      regroup (Some item) None = refl
      regroup (Some item) (Some items) = refl

  module _ {X : Type 0} (seen : X → A) where
    -- What's read of the items so far and of the i-th.
    pub read_more : (items : List X) (i : ℕ) (d : X) (front : List B) (one : B) → i < length items
        → all_read read (map seen (take i items)) ≡ Some front → read (seen (get_or items i d)) ≡ Some one
        → all_read read (map seen (take (i + 1) items)) ≡ Some (front ++ one ∷ [])
    read_more items i d front one within so_far is =
        let next : take (i + 1) items ≡ take i items ++ get_or items i d ∷ [] =
        rw (add-one, take-suc items i d within) refl in
        ap (λ all. all_read read (map seen all)) next
        ∙ ap (all_read read) (map-append seen (take i items) (get_or items i d ∷ []))
        ∙ read-push _ _ one is ∙ ap (λ all. with_one all one) so_far

    -- Nothing is read of an item.
    pub read_fails : (items : List X) (i : ℕ) (d : X) → i < length items → read (seen (get_or items i d)) ≡ None
        → all_read read (map seen items) ≡ None
    read_fails [] i d within fails = absurd (omega arith)
    read_fails (first ∷ items) zero d within fails = rw fails refl
    read_fails (first ∷ items) (suc i) d within fails =
        nothing (read (seen first)) _ (read_fails items i d (omega arith) fails)
      where
        nothing : (first : Option B) (others : Option (List B)) → others ≡ None
            → (first >>= λ item. others >>= λ items. Some (item ∷ items)) ≡ None
        nothing None others none = refl
        nothing (Some item) others none = rw none refl

    -- All of the items were read.
    pub all_taken : (items : List X) (i : ℕ) (all : List B) → length items ≤ i
        → all_read read (map seen (take i items)) ≡ Some all → all_read read (map seen items) ≡ Some all
    all_taken items i all end so_far = rw (take_all i items end) at so_far
