-- The pairs of processes, one more at a time.
use Rattle.wcp_queue.proofs.Words.{◌≡◌, ℕ, ◌+◌, ◌<◌, List, [], ◌∷◌, ◌++◌, sym, ◌∙◌, ap, subst, arith}
use Rattle.wcp_queue.proofs.Words.{◌≢◌, ◌||◌, false, eqb, ne_eqb, true≢false, inl, inr, cases_eq, length-append}
use Rattle.wcp_queue.proofs.Words.{get_or_append_left, NumberSet, AreSomeWatched}
use Rattle.std.proofs.lemmas.List.{get_or_push}
use Rattle.std.specs.Cmp.{unsigned_tied, nat_cmp_total}
use Rattle.std.specs.Ordering.{nat_cmp}
use Rattle.std.specs.FinSet as set
use Rattle.std.specs.FinSet.{members}
use Rattle.wcp_queue.specs.Pairs.{pair_of, pair_number, IsListedPair, ArePairsBefore}

-- a set with one number more
contains_with : (numbers : NumberSet) (p q : ℕ)
    → set.contains (set.insert numbers p) q ≡ (eqb q p || set.contains numbers q)
contains_with numbers p q = set.contains-insert nat_cmp_total numbers p q
    ∙ ap (λ b. b || set.contains numbers q) (unsigned_tied q p)

-- who is in a pair is one of the two
one_of_two : (a b p : ℕ) → p ≢ a → p ≢ b → set.contains (pair_of a b) p ≡ false
one_of_two a b p not_a not_b =
    let none : NumberSet = set.empty in
    let one : NumberSet = set.insert none a in
    contains_with one b p
    ∙ ap (λ t. t || set.contains one p) (ne_eqb p b not_b)
    ∙ contains_with none a p
    ∙ ap (λ t. t || set.contains none p) (ne_eqb p a not_a)
    ∙ set.contains-empty nat_cmp p

-- a pair of processes is a set of some of them
pub AreSomeWatched-pair : (n a b : ℕ) → a < n → b < n → AreSomeWatched n (pair_of a b)
AreSomeWatched-pair n a b a_within b_within = record {
  some = (b, grind (arith, members));
  within = λ p has. elim (cases_eq p b) [
    | inl is_b ↦ omega arith
    | inr not_b ↦ elim (cases_eq p a) [
      | inl is_a ↦ omega arith
      | inr not_a ↦ absurd (true≢false (sym has ∙ one_of_two a b p not_a not_b))
    ]
  ];
}

module _ (n : ℕ) (sets : List NumberSet) (a b : ℕ) (pair : NumberSet) (order : a < b) (within : b < n)
    (is : pair ≡ pair_of a b) (are : ArePairsBefore n sets a b) where
  abbrev more : List NumberSet
  more = sets ++ pair ∷ []

  kept : (c d : ℕ) → IsListedPair n sets c d → IsListedPair n more c d
  kept c d listed = record {
    within = omega (arith, listed.within, length-append sets (pair ∷ []));
    here = get_or_append_left sets (pair ∷ []) set.empty (pair_number n c d) listed.within ∙ listed.here;
  }

  last : IsListedPair n more a b
  last = record {
    within = omega (arith, are.as_many, length-append sets (pair ∷ []));
    here = get_or_push sets pair set.empty (pair_number n a b) are.as_many ∙ is;
  }

  pub ArePairsBefore-more : ArePairsBefore n more a (b + 1)
  ArePairsBefore-more = record {
    as_many = omega (arith, are.as_many, length-append sets (pair ∷ []));
    lesser = λ c d c_order d_within c_less. kept c d (are.lesser c d c_order d_within c_less);
    own = λ d d_order d_within d_less. elim (cases_eq d b) [
      | inl same ↦ subst (IsListedPair n more a) (sym same) last
      | inr other ↦ kept a d (are.own d d_order d_within (omega arith))
    ];
  }
