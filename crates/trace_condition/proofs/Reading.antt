-- Texts that are read one after another.
use Rattle.trace_condition.proofs.Words.{◌≡◌, ℕ, ◌<◌, ◌+◌, List, [], ◌∷◌, ◌++◌, length, get_or, take, Option, Some}
use Rattle.trace_condition.proofs.Words.{None}
use Rattle.trace_condition.proofs.Words.{refl, ap, ◌∙◌, add-one, zero, suc, arith, Bor, take-suc, map-append, ◌>>=◌}
use Rattle.trace_condition.proofs.Words.{Text}
use Rattle.trace_condition.proofs.Words.{all_read, seen_texts}

module _ {B : Type 0} (read : Text → Option B) where
  abbrev with_one : Option (List B) → B → Option (List B)
  with_one front one = front >>= λ all. Some (all ++ one ∷ [])

  -- What's read of one text more.
  read-push : (texts : List Text) (text : Text) (one : B) → read text ≡ Some one
      → all_read read (texts ++ text ∷ []) ≡ with_one (all_read read texts) one
  read-push [] text one is = rw is refl
  read-push (first ∷ texts) text one is = rw (read-push texts text one is) (regroup (read first) (all_read read texts))
    where
      regroup : (first : Option B) (front : Option (List B))
          → (first >>= λ item. with_one front one >>= λ items. Some (item ∷ items))
          ≡ with_one (first >>= λ item. front >>= λ items. Some (item ∷ items)) one
      regroup None front = refl
      regroup (Some item) None = refl
      regroup (Some item) (Some items) = refl

  -- What's read of the texts so far and of the i-th.
  pub read_more : (texts : List (Bor Text)) (i : ℕ) (d : Bor Text) (front : List B) (one : B) → i < length texts
      → all_read read (seen_texts (take i texts)) ≡ Some front → read (get_or texts i d).now ≡ Some one
      → all_read read (seen_texts (take (i + 1) texts)) ≡ Some (front ++ one ∷ [])
  read_more texts i d front one within so_far is =
      let next : take (i + 1) texts ≡ take i texts ++ get_or texts i d ∷ [] =
      rw (add-one, take-suc texts i d within) refl in
      ap (λ all. all_read read (seen_texts all)) next
      ∙ ap (all_read read) (map-append (λ (t : Bor Text). t.now) (take i texts) (get_or texts i d ∷ []))
      ∙ read-push _ _ one is ∙ ap (λ all. with_one all one) so_far

  -- Nothing is read of a text.
  pub read_fails : (texts : List (Bor Text)) (i : ℕ) (d : Bor Text) → i < length texts
      → read (get_or texts i d).now ≡ None → all_read read (seen_texts texts) ≡ None
  read_fails [] i d within fails = absurd (omega arith)
  read_fails (first ∷ texts) zero d within fails = rw fails refl
  read_fails (first ∷ texts) (suc i) d within fails =
      nothing (read first.now) _ (read_fails texts i d (omega arith) fails)
    where
      nothing : (first : Option B) (others : Option (List B)) → others ≡ None
          → (first >>= λ item. others >>= λ items. Some (item ∷ items)) ≡ None
      nothing None others none = refl
      nothing (Some item) others none = rw none refl
