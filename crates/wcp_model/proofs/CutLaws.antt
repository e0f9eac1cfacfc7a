use Rattle.wcp_model.proofs.Words.{◌≡◌, ◌≢◌, ℕ, suc, zero, ◌<◌, ◌≤◌, min, Bool, true, false, true≢false, cond, ◌&&◌}
use Rattle.wcp_model.proofs.Words.{List, [], ◌∷◌, length, map, refl, sym, ap, ap₂, ◌∙◌, subst, inl, inr, arith, ◌+◌}
use Rattle.wcp_model.proofs.Words.{◌-◌, sum, ⊎_elim, slice_index_or, Option, Some, None, is_some, unwrap_or, cases_lt}
use Rattle.wcp_model.proofs.Words.{State, Computation, communications, HappenedBefore, NumberSet, IsWatched, Intervals}
use Rattle.wcp_model.proofs.Words.{NamesWatched, interval_of, lesser, member, minimum, IsSatisfyingCut, MinimumLaw}
use Rattle.wcp_model.proofs.Words.{IsLeastCut, LeastCutLaw, nil_from_length, length-map, sum_by-cons}
use Rattle.std.specs.FinSet as set
use Rattle.wcp_model.proofs.Predecessors.{local_state, before_later, before_trans}
use Rattle.wcp_model.proofs.Reached.{true_state_exists}
use Rattle.wcp_model.proofs.Decided.{Decided, decided_from, some_below_decided}

-- what happened before a state happened before each later state of its process
pub happened_before_later : (c : Computation) (s : State) (q k l : ℕ) → k ≤ l → l ≤ communications c q
    → HappenedBefore c s (local_state q k) → HappenedBefore c s (local_state q l)
happened_before_later c s q k l order within before = grind (arith, cases_lt, before_trans, local_state, before_later)

-- the minimum of two cuts names what both name, and of that the lesser
lesser-none : (o : Option ℕ) → lesser o None ≡ None
lesser-none (Some k) = refl
lesser-none None = refl

pub at-minimum : (one other : Intervals) (p : ℕ)
    → slice_index_or (minimum one other) p None ≡ lesser (slice_index_or one p None) (slice_index_or other p None)
at-minimum [] other p = refl
at-minimum (k ∷ ks) [] p = sym (lesser-none (slice_index_or (k ∷ ks) p None))
at-minimum (k ∷ ks) (l ∷ ls) zero = refl
at-minimum (k ∷ ks) (l ∷ ls) (suc p) = at-minimum ks ls p

pub length-minimum : (one other : Intervals) → length one ≡ length other → length (minimum one other) ≡ length one
length-minimum [] [] same = refl
length-minimum [] (l ∷ ls) same = refl
length-minimum (k ∷ ks) [] same = absurd (omega arith)
length-minimum (k ∷ ks) (l ∷ ls) same = ap suc (length-minimum ks ls (omega arith))

is_some-lesser : (a b : Option ℕ) → is_some (lesser a b) ≡ (is_some a && is_some b)
is_some-lesser (Some k) (Some l) = refl
is_some-lesser (Some k) None = refl
is_some-lesser None b = refl

unwrap-lesser : (a b : Option ℕ) → is_some a ≡ true → is_some b ≡ true
    → unwrap_or (lesser a b) 0 ≡ min (unwrap_or a 0) (unwrap_or b 0)
unwrap-lesser (Some k) (Some l) a_is b_is = refl
unwrap-lesser (Some k) None a_is b_is = absurd (true≢false (sym b_is))
unwrap-lesser None b a_is b_is = absurd (true≢false (sym a_is))

module _ (n : ℕ) (watched : NumberSet) (one other : Intervals) (mine : NamesWatched n watched one)
    (theirs : NamesWatched n watched other) where
  pub NamesWatched-minimum : NamesWatched n watched (minimum one other)
  NamesWatched-minimum = grind (arith, length-minimum, at-minimum, is_some-lesser)

  pub interval_of-minimum : (p : ℕ) → IsWatched n watched p
      → interval_of (minimum one other) p ≡ min (interval_of one p) (interval_of other p)
  interval_of-minimum p is = grind (arith, at-minimum, unwrap-lesser)

-- a member of a satisfying cut happened before no member of a cut that lies at or below it
pub nothing_before_below : (n : ℕ) (watched : NumberSet) (c : Computation) (cut lower : Intervals) (p q : ℕ)
    → IsSatisfyingCut n watched c cut → IsWatched n watched p → IsWatched n watched q → p ≢ q
    → interval_of lower p ≡ interval_of cut p → interval_of lower q ≤ interval_of cut q
    → HappenedBefore c (member lower p) (member lower q) → ⊥
nothing_before_below n watched c cut lower p q satisfying p_is q_is apart same order before =
    let later : HappenedBefore c (member lower p) (member cut q) =
    grind (arith, happened_before_later, true_state_exists) in
    satisfying.consistent p q p_is q_is apart
    (subst (λ k. HappenedBefore c (local_state p k) (member cut q)) same later)

pub minimum_is_satisfying : MinimumLaw
minimum_is_satisfying n watched c one other left right = record {
  members = NamesWatched-minimum n watched one other left.members right.members;
  consistent = λ p q p_is q_is apart before. grind (arith, index p p_is, index q q_is, nothing_before_below);
  true_states = λ p is. grind (arith, index p is);
}
  where
    index : (p : ℕ) → IsWatched n watched p
        → interval_of (minimum one other) p ≡ min (interval_of one p) (interval_of other p)
    index = interval_of-minimum n watched one other left.members right.members

-- a list of this length, with a sum below the limit, has the property
pub record Smaller (P : List ℕ → Type 0) (n limit : ℕ) : Type 0 where
  pub list : List ℕ
  pub members : length list ≡ n
  pub less : sum list < limit
  pub holds : P list

sum-cons : (k : ℕ) (ks : List ℕ) → sum (k ∷ ks) ≡ k + sum ks
sum-cons k ks = sum_by-cons (λ x. x) k ks

-- whether such a list has a property that is decided can be found out
pub smaller_decided : (n limit : ℕ) (P : List ℕ → Type 0) → ((list : List ℕ) → Decided (P list))
    → Decided (Smaller P n limit)
smaller_decided zero limit P decide = elim (cases_lt 0 limit) [
  | inl positive ↦ decided_from (λ holds. record { list = []; members = refl; less = positive; holds = holds })
      (λ s. subst P (nil_from_length s.list s.members) s.holds) (decide [])
  | inr none ↦ inr (λ s. absurd (omega arith))
]
smaller_decided (suc n) limit P decide = ⊎_elim
    (grind (arith, sum-cons))
    (λ none. inr (λ s. none (first_of_it s.list s.members s.less s.holds)))
    (some_below_decided (λ k. Smaller (λ rest. P (k ∷ rest)) n (limit - k)) limit
    (λ k k_below. smaller_decided n (limit - k) (λ rest. P (k ∷ rest)) (λ rest. decide (k ∷ rest))))
  where
    first_of_it : (list : List ℕ) → length list ≡ suc n → sum list < limit → P list
        → (k : ℕ) × (k < limit) × Smaller (λ rest. P (k ∷ rest)) n (limit - k)
    first_of_it [] members less holds = absurd (omega arith)
    first_of_it (k ∷ ks) members less holds = (
      k,
      omega (arith, sum-cons k ks),
      record { list = ks; members = omega arith; less = omega (arith, sum-cons k ks); holds = holds },
    )

-- the intervals of a cut, with 0 where it names none
abbrev pub or_zero : Option ℕ → ℕ
or_zero o = unwrap_or o 0

abbrev pub total : Intervals → ℕ
total cut = sum (map or_zero cut)

-- the cut that names these intervals of the watched processes, from process k on
abbrev pub marked : NumberSet → ℕ → List ℕ → Intervals
marked watched k [] = []
marked watched k (x ∷ xs) = cond (set.contains watched k) (Some x) None ∷ marked watched (suc k) xs

marked_first : (b : Bool) (o : Option ℕ) → is_some o ≡ b → cond b (Some (or_zero o)) None ≡ o
marked_first true (Some x) is = refl
marked_first true None is = absurd (true≢false (sym is))
marked_first false (Some x) is = absurd (true≢false is)
marked_first false None is = refl

marked_from : (watched : NumberSet) (k : ℕ) (cut : Intervals)
    → ((i : ℕ) → i < length cut → is_some (slice_index_or cut i None) ≡ set.contains watched (k + i))
    → marked watched k (map or_zero cut) ≡ cut
marked_from watched k [] named = refl
marked_from watched k (o ∷ cut) named =
    let here : k + 0 ≡ k = omega arith in
    let there : (i : ℕ) → k + suc i ≡ suc k + i = λ i. omega arith in
    ap₂ (λ x xs. x ∷ xs)
    (marked_first (set.contains watched k) o (named 0 (omega arith) ∙ ap (set.contains watched) here))
    (marked_from watched (suc k) cut (λ i below. named (suc i) (omega arith) ∙ ap (set.contains watched) (there i)))

-- a cut is that of its intervals
pub marked_back : (n : ℕ) (watched : NumberSet) (cut : Intervals) → NamesWatched n watched cut
    → marked watched 0 (map or_zero cut) ≡ cut
marked_back n watched cut is = grind (arith, marked_from)

-- a minimum that is less at one place has a lesser sum
lesser_le : (a b : Option ℕ) → (or_zero (lesser a b) ≤ or_zero a) × (or_zero (lesser a b) ≤ or_zero b)
lesser_le (Some k) (Some l) = (omega arith, omega arith)
lesser_le (Some k) None = (omega arith, omega arith)
lesser_le None b = (omega arith, omega arith)

total-cons : (o : Option ℕ) (cut : Intervals) → total (o ∷ cut) ≡ or_zero o + total cut
total-cons o cut = sum-cons (or_zero o) (map or_zero cut)

pub total-minimum_le : (one other : Intervals) → total (minimum one other) ≤ total one
total-minimum_le [] other = omega arith
total-minimum_le (k ∷ ks) [] = omega arith
total-minimum_le (k ∷ ks) (l ∷ ls) = grind (arith, total-cons, total-minimum_le ks ls, lesser_le)

pub total-minimum_lt : (one other : Intervals) (p : ℕ) → interval_of other p < interval_of one p
    → total (minimum one other) < total one
total-minimum_lt [] other p less = absurd (omega arith)
total-minimum_lt (k ∷ ks) [] zero less = omega (arith, total-cons k ks)
total-minimum_lt (k ∷ ks) [] (suc p) less =
    omega (arith, total-cons k ks, total-minimum_lt ks [] p less, total-minimum_le ks [])
total-minimum_lt (k ∷ ks) (l ∷ ls) zero less = grind (arith, total-cons, total-minimum_le, lesser_le)
total-minimum_lt (k ∷ ks) (l ∷ ls) (suc p) less = grind (arith, total-cons, total-minimum_lt ks ls p less, lesser_le)

-- a satisfying cut of a lesser sum, by its intervals
abbrev pub IsSatisfyingList : ℕ → NumberSet → Computation → List ℕ → Type 0
IsSatisfyingList n watched c list = IsSatisfyingCut n watched c (marked watched 0 list)

abbrev pub SmallerCut : ℕ → NumberSet → Computation → Intervals → Type 0
SmallerCut n watched c cut = Smaller (IsSatisfyingList n watched c) n (total cut)

-- a satisfying cut is least if none has a lesser sum, since its minimum with another is satisfying
pub least_by_sum : (n : ℕ) (watched : NumberSet) (c : Computation) (cut : Intervals) → IsSatisfyingCut n watched c cut
    → (SmallerCut n watched c cut → ⊥) → IsLeastCut n watched c cut
least_by_sum n watched c cut satisfying none = record {
  one = satisfying;
  below = λ other also p is. elim (cases_lt (interval_of other p) (interval_of cut p)) [
    | inl less ↦ absurd (none (lesser_cut other also p less))
    | inr above ↦ above
  ];
}
  where
    lesser_cut : (other : Intervals) → IsSatisfyingCut n watched c other → (p : ℕ)
        → interval_of other p < interval_of cut p → SmallerCut n watched c cut
    lesser_cut other also p less =
        let both = minimum_is_satisfying n watched c cut other satisfying also in
        record {
          list = map or_zero (minimum cut other);
          members = length-map (minimum cut other) or_zero ∙ both.members.processes;
          less = total-minimum_lt cut other p less;
          holds =
              subst (IsSatisfyingCut n watched c) (sym (marked_back n watched (minimum cut other) both.members)) both;
        }

-- where satisfying is decided, the search among the cuts of lesser sum ends at the least one
pub least_from_decider : ((n : ℕ) (watched : NumberSet) (c : Computation) (cut : Intervals)
    → Decided (IsSatisfyingCut n watched c cut)) → LeastCutLaw
least_from_decider decide n watched c cut satisfying = descend (suc (total cut)) cut (omega arith) satisfying
  where
    total-marked_le : (k : ℕ) (list : List ℕ) → total (marked watched k list) ≤ sum list
    total-marked_le k [] = omega arith
    total-marked_le k (x ∷ xs) = grind (arith, total-cons, marked, sum-cons, total-marked_le (suc k) xs, or_zero)

    descend : (limit : ℕ) (cut : Intervals) → total cut < limit → IsSatisfyingCut n watched c cut
        → (least : Intervals) × IsLeastCut n watched c least
    descend zero cut within satisfying = absurd (omega arith)
    descend (suc limit) cut within satisfying = ⊎_elim
        (λ smaller. descend limit (marked watched 0 smaller.list)
        (omega (arith, smaller.less, total-marked_le 0 smaller.list)) smaller.holds)
        (λ none. (cut, least_by_sum n watched c cut satisfying none))
        (smaller_decided n (total cut) (IsSatisfyingList n watched c)
        (λ list. decide n watched c (marked watched 0 list)))
