-- Each step on a lane keeps the lane rule.
use Rattle.wcp_lane.proofs.Words.{◌≡◌, ◌≢◌, ℕ, zero, suc, ◌<◌, Bool, true, false, true≢false, not, ◌&&◌, List, [], ◌∷◌}
use Rattle.wcp_lane.proofs.Words.{◌++◌, length, get_or, set, cond, sym, refl, ap, ◌∙◌, subst, ⊎_elim, arith}
use Rattle.wcp_lane.proofs.Words.{append_assoc, All, nat_eq, nat_cmp_total, flat_map, list_any, range_with_len}
use Rattle.wcp_lane.proofs.Words.{cases_eq, cases_Bool, agree_below_at, false_from_ne_true, not-false, and_right}
use Rattle.wcp_lane.proofs.Words.{flat_map-append, append-nil, take_at, drop_at, All-append, All-cons, All-take}
use Rattle.wcp_lane.proofs.Words.{All-drop, some, get_elem?, most_processes, IsNext, AreInSequence, items_from, Hand}
use Rattle.wcp_lane.proofs.Words.{AllMayFollow, AreProcessNumbers, Numbers, putter, taker, nobody, without, joined}
use Rattle.wcp_lane.proofs.Words.{with_put, with_taken, taken_of, put_of, IsPut, IsTaken, IsBalanced, IsRuled}
use Rattle.std.specs.FinSet as sets
use Rattle.std.proofs.Math.Bool.{and-true}
use Rattle.crossbeam_channel.specs.Fifo.{Pushes, Pops, Forks, Merges, Learns}
use Rattle.wcp_lane.specs.declared.passes.Home.{Home}
use Rattle.wcp_lane.specs.Passes.{all_numbers}
use Rattle.wcp_lane.proofs.Lists.{not_empty, of_snoc, flat_map-set_same, flat_map-set_own, flat_map-one, flat_map-merge}
use Rattle.wcp_lane.proofs.Lists.{items_from-append, items_from-own, items_from-other, items_from-none, items-push}
use Rattle.wcp_lane.proofs.Lists.{items_from-push}

pub all_numbers-contains : (p : ℕ) → p < most_processes → sets.contains all_numbers p ≡ true
unfolding all_numbers
all_numbers-contains p below =
    sets.contains-from_list_nat (range_with_len 0 most_processes) p
    ∙ agree_below_at (λ q. list_any (λ y. nat_eq y q) (range_with_len 0 most_processes))
    (λ q. true) most_processes p refl below

module _ {I : Type 0} (place : I → ℕ) (is_last : I → Bool) where
  -- a run with its next item is a run
  pub AreInSequence-push : (xs : List I) (x : I) → AreInSequence place is_last xs → IsNext place is_last xs x
      → AreInSequence place is_last (xs ++ x ∷ [])
  AreInSequence-push xs x run next before item behind e =
      ⊎_elim
      (λ (old : (rest : List I) × (xs ≡ before ++ item ∷ rest)). run before item old.0 old.1)
      (λ (new : (xs ≡ before) × (x ≡ item)). rw (← new.0, ← new.1) next)
      (of_snoc xs x before item behind e)

module _ {A : Type 0} (P : A → Type 0) where
  pub All-front : (xs ys : List A) → All P (xs ++ ys) → All P xs
  All-front xs ys all = subst (All P) (take_at xs ys (length xs) refl) (All-take P (length xs) (xs ++ ys) all)

  All-back : (xs ys : List A) → All P (xs ++ ys) → All P ys
  All-back xs ys all = subst (All P) (drop_at xs ys (length xs) refl) (All-drop P (length xs) (xs ++ ys) all)

module _ {I : Type 0} (origin place : I → ℕ) (is_last : I → Bool) where
  -- items that may follow are of the numbers
  all_owned : (numbers : Numbers) (before items : List I) → AllMayFollow origin place is_last numbers before items
      → All (λ item. sets.contains numbers (origin item) ≡ true) items
  all_owned numbers before [] may k d below = absurd (omega arith)
  all_owned numbers before (x ∷ xs) may zero d below = may.0.owned
  all_owned numbers before (x ∷ xs) may (suc k) d below =
      all_owned numbers (before ++ x ∷ []) xs may.1 k d (omega arith)

  -- items that may follow, of the numbers of processes, are of these
  pub all_below : (numbers : Numbers) (before items : List I) → AreProcessNumbers numbers
      → AllMayFollow origin place is_last numbers before items → All (λ item. origin item < most_processes) items
  all_below numbers before items within may k d below =
      within (origin (get_or items k d)) (all_owned numbers before items may k d below)

  -- with items that may follow, the items of each number stay in sequence
  AreInSequence-more : (numbers : Numbers) (q : ℕ) (before items : List I) → AreInSequence place is_last
      (items_from origin q before) → AllMayFollow origin place is_last numbers before items
      → AreInSequence place is_last (items_from origin q (before ++ items))
  AreInSequence-more numbers q before [] run may = rw append-nil run
  AreInSequence-more numbers q before (x ∷ xs) run may =
      let more : AreInSequence place is_last (items_from origin q (before ++ x ∷ [])) =
      rw (items_from-append origin q before (x ∷ []))
      (⊎_elim
      (λ (here : origin x ≡ q). rw (items_from-own origin q x [] here)
      (AreInSequence-push place is_last (items_from origin q before) x run (rw (← here) may.0.next)))
      (λ (apart : origin x ≢ q). rw (items_from-other origin q x [] apart, append-nil) run)
      (cases_eq (origin x) q)) in
      rw (← append_assoc before (x ∷ []) xs) (AreInSequence-more numbers q (before ++ x ∷ []) xs more may.1)

  -- where the items of each number of a kind are in sequence, those behind a prefix may follow it
  pub may_follow : (IsOne : ℕ → Type 0) (members : Numbers) (all : List I)
      → ((q : ℕ) → IsOne q → AreInSequence place is_last (items_from origin q all))
      → ((q : ℕ) → IsOne q → (items_from origin q all ≡ [] → ⊥) → sets.contains members q ≡ true)
      → (before items behind : List I) → all ≡ before ++ (items ++ behind) → All (λ item. IsOne (origin item)) items
      → AllMayFollow origin place is_last members before items
  may_follow IsOne members all runs owned before [] behind is each = tt
  may_follow IsOne members all runs owned before (x ∷ xs) behind is each =
      let p : ℕ = origin x in
      let within : IsOne p = each 0 x (omega arith) in
      let split : items_from origin p all ≡ items_from origin p before ++ x ∷ items_from origin p (xs ++ behind) =
      rw (is, items_from-append origin p before (x ∷ (xs ++ behind)), items_from-own origin p x (xs ++ behind) refl)
      refl in (
        record {
          owned = owned p within (λ none. not_empty (items_from origin p before) x (items_from origin p (xs ++ behind))
              (sym none ∙ split));
          next = runs p within (items_from origin p before) x (items_from origin p (xs ++ behind)) split;
        },
        may_follow IsOne members all runs owned (before ++ x ∷ []) xs behind (rw append_assoc is)
            (λ k d below. each (suc k) d (omega arith)),
      )

module _ {M I : Type 0} (items_of : M → List I) (origin place : I → ℕ) (is_last : I → Bool) where
  abbrev from : ℕ → List M → List I
  from p messages = items_from origin p (flat_map items_of messages)

  abbrev put_by : ℕ → Hand M → List (List I)
  put_by = put_of items_of origin

  abbrev Rule : List M → List (Hand M) → Type 0
  Rule = IsRuled items_of origin place is_last

  -- what an end put of the numbers of its one set
  put_is : (p : ℕ) (numbers : Numbers) (put : List M)
      → put_by p (putter numbers put) ≡ cond (sets.contains numbers p) (from p put ∷ []) []
  put_is p numbers put = append-nil (cond (sets.contains numbers p) (from p put ∷ []) [])

  own_put : (p : ℕ) (numbers : Numbers) (put : List M) → sets.contains numbers p ≡ true
      → put_by p (putter numbers put) ≡ from p put ∷ []
  own_put p numbers put member = put_is p numbers put ∙ ap (λ b. cond b (from p put ∷ []) []) member

  no_put : (p : ℕ) (numbers : Numbers) (put : List M) → sets.contains numbers p ≡ false
      → put_by p (putter numbers put) ≡ []
  no_put p numbers put out = put_is p numbers put ∙ ap (λ b. cond b (from p put ∷ []) []) out

  -- a new lane
  pub begins : Rule [] (taker all_numbers [] ∷ [])
  begins = record {
    taken = [];
    put = λ p. [];
    rule = record {
      numbered = λ k d none. absurd (omega arith);
      whole = λ p below. refl;
      in_sequence = λ p below before item behind e. absurd (not_empty before item behind e);
    };
    takes = refl;
    stands = λ p below. ap (λ puts. puts ++ []) (own_put p all_numbers [] (all_numbers-contains p below));
  }

  -- a message is put
  pub puts : (n pass : ℕ) (v : Hand M) (numbers : Numbers) (put : List M) (m : M) → v ≡ putter numbers put
      → AreProcessNumbers numbers
      → AllMayFollow origin place is_last numbers (flat_map items_of put) (items_of m)
      → Pushes Rule n pass v m (IsPut v m)
  puts n pass v numbers put m is below_most may = rw is (λ within ends room h at.
      let v : Hand M = putter numbers put in
      let w : Hand M = with_put m v in
      let owned = all_owned origin place is_last numbers (flat_map items_of put) (items_of m) may in
      let more : ℕ → List I = λ q. h.put q ++ items_from origin q (items_of m) in
      let step : (q : ℕ) → q < most_processes → AreInSequence place is_last (more q)
      × (flat_map (put_by q) (set ends pass w) ≡ more q ∷ []) = λ q below. ⊎_elim
      (λ (member : sets.contains numbers q ≡ true).
      let own : put_by q v ≡ from q put ∷ [] = own_put q numbers put member in
      let one : put_by q v ≡ h.put q ∷ [] =
      flat_map-one (put_by q) ends pass v (h.put q) at (h.stands q below) (omega (arith, ap length own)) in
      let known : from q put ≡ h.put q = cc in
      let next : from q (put ++ m ∷ []) ≡ more q = items_from-push items_of origin q put m
      ∙ ap (λ xs. xs ++ items_from origin q (items_of m)) known in (
        rw (← next, items-push items_of put m) (AreInSequence-more origin place is_last numbers q
            (flat_map items_of put) (items_of m) (rw known (h.rule.in_sequence q below)) may),
        rw (← next) (flat_map-set_own (put_by q) ends pass v
            w at (omega (arith, ap length own, ap length (h.stands q below)))
            ∙ own_put q numbers (put ++ m ∷ []) member),
      ))
      (λ (out : sets.contains numbers q ≡ false).
      let same : more q ≡ h.put q =
      ap (λ xs. h.put q ++ xs) (items_from-none origin q (items_of m) (λ k d inside here. true≢false
      (sym (ap (sets.contains numbers) (sym here) ∙ owned k d inside) ∙ out))) ∙ append-nil (h.put q) in
      let nothing : put_by q w ≡ put_by q v = no_put q numbers (put ++ m ∷ []) out ∙ sym (no_put q numbers put out) in (
        rw same (h.rule.in_sequence q below),
        rw same (flat_map-set_same (put_by q) ends pass v w at nothing ∙ h.stands q below),
      ))
      (cases_Bool (sets.contains numbers q)) in (
        w,
        record {
          taken = h.taken;
          put = more;
          rule = record {
            numbered = rw (items-push items_of within m)
                (All-append (λ item. origin item < most_processes) (flat_map items_of within)
                (items_of m) h.rule.numbered
                (all_below origin place is_last numbers (flat_map items_of put) (items_of m) below_most may));
            whole =
                λ q below. rw (items_from-push items_of origin q within m, ← append_assoc, h.rule.whole q below) refl;
            in_sequence = λ q below. (step q below).0;
          };
          takes = flat_map-set_same taken_of ends pass v w at refl ∙ h.takes;
          stands = λ q below. (step q below).1;
        },
        refl,
      ))

  -- the end that takes has taken what was taken
  taken_all : (within : List M) (ends : List (Hand M)) (pass : ℕ) (v : Hand M) (h : Rule within ends) → v.takes ≡ true
      → get_elem? ends pass ≡ some v → v.taken ≡ h.taken
  taken_all within ends pass v h may at =
      let own : taken_of v ≡ v.taken ∷ [] = rw may in
      let one : taken_of v ≡ h.taken ∷ [] =
      flat_map-one taken_of ends pass v h.taken at h.takes (omega (arith, ap length own)) in
      cc

  -- a message is taken
  pub takes : (pass : ℕ) (v : Hand M) → v.takes ≡ true → Pops Rule pass v (IsTaken items_of origin place is_last v)
  takes pass v may m within ends h at =
      let w : Hand M = with_taken m v in
      let known = taken_all (m ∷ within) ends pass v h may at in
      let own : taken_of v ≡ v.taken ∷ [] = rw may in
      let numbered : All (λ item. origin item < most_processes) (items_of m) =
      All-front (λ item. origin item < most_processes) (items_of m) (flat_map items_of within) h.rule.numbered in (
        w,
        record {
          taken = h.taken ++ m ∷ [];
          put = h.put;
          rule = record {
            numbered =
                All-back (λ item. origin item < most_processes) (items_of m) (flat_map items_of within) h.rule.numbered;
            whole = λ q below. rw (
              items_from-push items_of origin q h.taken m,
              append_assoc,
              ← items_from-append origin q (items_of m) (flat_map items_of within),
            ) (h.rule.whole q below);
            in_sequence = h.rule.in_sequence;
          };
          takes = rw (
            flat_map-set_own taken_of ends pass v w at (omega (arith, ap length own, ap length h.takes)),
            may,
            known,
          ) refl;
          stands = λ q below. flat_map-set_same (put_by q) ends pass v w at refl ∙ h.stands q below;
        },
        (
          refl,
          λ unowned taken is.
              let before : List I = flat_map items_of taken in
              let all : List I = before ++ (items_of m ++ flat_map items_of within) in
              let put_is : (q : ℕ) → q < most_processes → items_from origin q all ≡ h.put q = λ q below.
              items_from-append origin q before (items_of m ++ flat_map items_of within)
              ∙ ap (λ (xs : List M). from q xs ++ from q (m ∷ within)) (sym (ap (λ (x : Hand M). x.taken) is) ∙ known)
              ∙ h.rule.whole q below in
              let unput : (q : ℕ) → q < most_processes → sets.contains unowned q ≡ true
              → h.put q ≡ [] = λ q below member.
              let nothing : put_by q v ≡ [] ∷ [] = rw is (own_put q unowned [] member) in
              let one : put_by q v ≡ h.put q ∷ [] = flat_map-one (put_by q) ends pass v (h.put q) at (h.stands q below)
              (omega (arith, ap length nothing)) in
              cc in
              record {
                numbered = numbered;
                follows = λ members rest.
                    may_follow origin place is_last (λ q. q < most_processes) members all
                    (λ q below. rw (put_is q below) (h.rule.in_sequence q below))
                    (λ q below some_there. not-false (sets.contains members q) (sym (rest q below) ∙ false_from_ne_true
                    (sets.contains unowned q) (λ member. some_there (put_is q below ∙ unput q below member))))
                    before (items_of m) (flat_map items_of within) refl numbered;
              },
        ),
      )

  -- an end is given the numbers of a set
  pub gives : (pass : ℕ) (v : Hand M) (unowned numbers : Numbers) → v ≡ taker unowned []
      → ((p : ℕ) → p < most_processes → sets.contains numbers p ≡ true → sets.contains unowned p ≡ true)
      → Forks Rule pass v (without numbers v) (putter numbers [])
  gives pass v unowned numbers is among = rw is (λ items ends h at.
      let v : Hand M = taker unowned [] in
      let left : Hand M = without numbers v in
      let right : Hand M = putter numbers [] in
      let rest = sets.difference unowned numbers in
      let what_is_left : (p : ℕ) → sets.contains rest p ≡ (sets.contains unowned p && not (sets.contains numbers p)) =
      λ p. sets.contains-difference nat_cmp_total unowned numbers p in
      record {
        taken = h.taken;
        put = h.put;
        rule = h.rule;
        takes = rw (
          flat_map-append taken_of (set ends pass left) (right ∷ []),
          append-nil (flat_map taken_of
              (set ends pass left)),
          flat_map-set_same taken_of ends pass v left at refl,
        ) h.takes;
        stands = λ p below. flat_map-append (put_by p) (set ends pass left) (right ∷ []) ∙ ⊎_elim
            (λ (given : sets.contains numbers p ≡ true).
            let own : put_by p v ≡ [] ∷ [] = own_put p unowned [] (among p below given) in
            let one : put_by p v ≡ h.put p ∷ [] =
            flat_map-one (put_by p) ends pass v (h.put p) at (h.stands p below) (omega (arith, ap length own)) in
            let gone : sets.contains rest p ≡ false = what_is_left p
            ∙ and_right (sets.contains unowned p) (not (sets.contains numbers p)) (ap not given) in
            let nothing : flat_map (put_by p) (set ends pass left) ≡ [] = flat_map-set_own (put_by p) ends pass v
            left at (omega (arith, ap length own, ap length (h.stands p below))) ∙ no_put p rest [] gone in
            let unput : h.put p ≡ [] = cc in
            (λ k. nothing k ++ (own_put p numbers [] given k ++ [])) ∙ ap (λ xs. xs ∷ []) (sym unput))
            (λ (out : sets.contains numbers p ≡ false).
            let stays : sets.contains rest p ≡ sets.contains unowned p =
            rw (what_is_left p, out) (and-true (sets.contains unowned p)) in
            let same : put_by p left ≡ put_by p v = rw stays in
            ap (λ xs. flat_map (put_by p) (set ends pass left) ++ (xs ++ [])) (no_put p numbers [] out)
            ∙ append-nil (flat_map (put_by p) (set ends pass left))
            ∙ flat_map-set_same (put_by p) ends pass v left at same ∙ h.stands p below)
            (cases_Bool (sets.contains numbers p));
      })

  -- the numbers of a putter go to the taker
  pub joins : (pass : ℕ) (v : Hand M) (other : ℕ) (u : Hand M) (numbers : Numbers) (put : List M) → v.takes ≡ true
      → u ≡ putter numbers put → Merges Rule pass v other u (joined v u) nobody
  joins pass v other u numbers put may is items ends h at apart at_other = record {
    taken = h.taken;
    put = h.put;
    rule = h.rule;
    takes =
        flat_map-merge taken_of ends pass other v u (joined v u) nobody h.taken at apart at_other (rw is) refl h.takes;
    stands = λ p below. flat_map-merge (put_by p) ends pass other v u (joined v u) nobody (h.put p) at apart at_other
        (flat_map-append (λ (x : Home M). cond (sets.contains x.numbers p) (from p x.put ∷ []) []) u.home v.home) refl
        (h.stands p below);
  }

  -- what was put of the numbers that an end stands for
  pub balances : (pass : ℕ) (v : Hand M) → Learns Rule pass v (IsBalanced items_of origin v)
  balances pass v items ends h at = λ may p below k d inside.
      let one : put_by p v ≡ h.put p ∷ [] =
      flat_map-one (put_by p) ends pass v (h.put p) at (h.stands p below) (omega arith) in
      let is : h.put p ≡ from p v.taken ++ from p items = sym (h.rule.whole p below)
      ∙ ap (λ xs. from p xs ++ from p items) (sym (taken_all items ends pass v h may at)) in
      let all : All (λ xs. xs ≡ from p v.taken ++ from p items) (put_by p v) = rw one
      (All-cons (λ xs. xs ≡ from p v.taken ++ from p items) (h.put p) [] is (λ j e none. absurd (omega arith))) in
      all k d inside
