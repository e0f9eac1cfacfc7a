-- Lists of 16 flags or numbers, by their places.
use Rattle.std.proofs.Common.{◌≡◌, ℕ, ◌<◌, ◌≤◌, ◌+◌, ◌^◌, Bool, true, false, ◌&&◌, List, length, get_or, eqb, ltb}
use Rattle.std.proofs.Common.{refl, ap, sym, ◌∙◌, arith, take, drop}
use Rattle.std.specs.Prelude.{All}
use Rattle.std.specs.FinSet as set
use Rattle.std.specs.FinMap.{nat_cmp-IsAntisymmetric}
use Rattle.std.specs.Cmp.{nat_cmp_total}
use Rattle.std.specs.Ordering.{nat_cmp}
use Rattle.std.proofs.lemmas.Bool.Decides.{nat_tests}
use Rattle.std.proofs.lemmas.List.{same_lists, get_or_default, get_or-map, length-map, length-take-le, get_or-take}
use Rattle.std.proofs.lemmas.List.{get_or-drop}
use Rattle.std.proofs.lemmas.List.FromFn.{length-map-range_with_len, get_or-map-range_with_len}
use Rattle.wcp_clock.specs.ProcessNumbers.{NumberSet, AreProcessNumbers}
use Rattle.wcp_clock.proofs.Marks.{contains_with}
use Rattle.wcp_saved.specs.Spelling.{flag, flags, marks_of}

pub marks_by_places : (marks : List Bool) (watched : NumberSet) → length marks ≡ 16
    → ((k : ℕ) → k < 16 → get_or marks k false ≡ set.contains watched k) → marks ≡ marks_of watched
marks_by_places marks watched long each =
    same_lists marks (marks_of watched) (long
    ∙ sym (length-map-range_with_len (set.contains watched) 0 16)) (λ k d within.
    let few : k < 16 = omega (arith, long) in
    get_or_default marks k d false within ∙ each k few
    ∙ sym (get_or-map-range_with_len (set.contains watched) 0 16 k k d few (omega arith)))

flag_is : (mark : Bool) → eqb (flag mark) 1 ≡ mark
flag_is true = refl
flag_is false = refl

pub flags_back : (read marks : List Bool) (words : List ℕ) → length read ≡ 16 → length words ≡ 16 → words ≡ flags marks
    → ((k : ℕ) → k < 16 → get_or read k false ≡ eqb (get_or words k 0) 1) → read ≡ marks
flags_back read marks words long full e each =
    let as_many : length marks ≡ 16 = sym (length-map marks flag) ∙ sym (ap length e) ∙ full in
    same_lists read marks (long ∙ sym as_many) (λ k d within.
    let few : k < 16 = omega (arith, long) in
    get_or_default read k d false within ∙ each k few ∙ ap (λ (ws : List ℕ). eqb (get_or ws k 0) 1) e
    ∙ ap (λ n. eqb n 1) (get_or-map flag marks k false 0 (omega (arith, as_many)))
    ∙ flag_is (get_or marks k false) ∙ get_or_default marks k false d (omega (arith, as_many)))

pub numbers_back : (numbers words : List ℕ) → length words ≤ length numbers → All (λ word. word < 2 ^ 32) words
    → ((k : ℕ) → k < length words → get_or words k 0 < 2 ^ 32 → get_or numbers k 0 ≡ get_or words k 0)
    → take (length words) numbers ≡ words
numbers_back numbers words few small each =
    same_lists (take (length words) numbers) words (length-take-le (length words) numbers few) (λ k d within.
    let inside : k < length words = omega (arith, length-take-le (length words) numbers few) in
    get_or-take (length words) numbers k d inside ∙ get_or_default numbers k d 0 (omega (arith, few))
    ∙ each k inside (small k 0 inside) ∙ get_or_default words k 0 d inside)

pub zeros_behind : (numbers : List ℕ) (count : ℕ) → ((k : ℕ) → count ≤ k → get_or numbers k 0 ≡ 0)
    → All (λ number. number ≡ 0) (drop count numbers)
zeros_behind numbers count each k d within =
    get_or_default (drop count numbers) k d 0 within ∙ get_or-drop count numbers k 0 ∙ each (count + k) (omega arith)

pub none_marked : (marks : List Bool) (q : ℕ)
    → set.contains (set.empty {R = nat_cmp}) q ≡ (ltb q 0 && get_or marks q false)
none_marked marks q = grind (arith, nat_tests, set.contains-empty nat_cmp q)

pub more_marked : (watched : NumberSet) (marks : List Bool) (p : ℕ) → get_or marks p false ≡ true
    → ((q : ℕ) → set.contains watched q ≡ (ltb q p && get_or marks q false))
    → (q : ℕ) → set.contains (set.insert watched p) q ≡ (ltb q (p + 1) && get_or marks q false)
more_marked watched marks p is before q = grind (arith, nat_tests, contains_with, before)

pub same_marked : (watched : NumberSet) (marks : List Bool) (p : ℕ) → get_or marks p false ≡ false
    → ((q : ℕ) → set.contains watched q ≡ (ltb q p && get_or marks q false))
    → (q : ℕ) → set.contains watched q ≡ (ltb q (p + 1) && get_or marks q false)
same_marked watched marks p is before q = grind (arith, nat_tests, before)

pub all_marked : (read watched : NumberSet) (marks : List Bool) (p : ℕ) → p ≡ 16 → AreProcessNumbers watched
    → marks ≡ marks_of watched → ((q : ℕ) → set.contains read q ≡ (ltb q p && get_or marks q false)) → read ≡ watched
all_marked read watched marks p all few e before =
    set.same_set nat_cmp_total nat_cmp-IsAntisymmetric _ _ (λ q.
    let mark : q < 16 → get_or marks q false ≡ set.contains watched q =
    λ within. ap (λ (ms : List Bool). get_or ms q false) e
    ∙ get_or-map-range_with_len (set.contains watched) 0 16 q q false within (omega arith) in
    grind (arith, nat_tests, mark, before, few))
