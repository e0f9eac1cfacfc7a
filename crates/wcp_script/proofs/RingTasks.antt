-- The tasks of a ring, as they stand, are a fit order of themselves.
use Rattle.wcp_script.proofs.Words.{common_steps, ◌≡◌, ℕ, zero, suc, ◌+◌, ◌*◌, ◌-◌, ◌<◌, ◌≤◌, Bool, true, false, cond}
use Rattle.wcp_script.proofs.Words.{◌&&◌, eqb, List, [], ◌∷◌, ◌++◌, length, take, refl, ap, ◌∙◌, length-append, mul-suc}
use Rattle.wcp_script.proofs.Words.{arith, flat_map, range_with_len, All, count_by, cond_both, append-nil}
use Rattle.wcp_script.proofs.Words.{take-append-le, take_all, All-from_recursion, All-append, sum_by-append}
use Rattle.wcp_script.proofs.Words.{take-append-add, Task, sends, receives, IsWithin, IsFitOrder, CouldBeRead, before}
use Rattle.wcp_script.proofs.Words.{finds_both, received, sent, ring_turn, ring_round, ring_fault, ring_length}
use Rattle.wcp_model.specs.declared.workload.Action.TheVariants.{Observe, Send, Recv}
use Rattle.wcp_script.specs.Ring.{ring_tasks}
use Rattle.wcp_script.proofs.Ranges.{flat_map-range_each, flat_map-range_shifted, length-flat_map-range}

-- ---- fronts that receive no more than they send

abbrev Fits : List Task → Type 0
Fits tasks = (place p q : ℕ) → count_by (receives p q) (take place tasks) ≤ count_by (sends p q) (take place tasks)

count_by-append : (test : Task → Bool) (xs ys : List Task)
    → count_by test (xs ++ ys) ≡ count_by test xs + count_by test ys
count_by-append test xs ys = sum_by-append (λ x. cond (test x) 1 0) xs ys

fits_both : (xs ys : List Task) → Fits xs → Fits ys → Fits (xs ++ ys)
fits_both xs ys one other place p q =
    grind (
      arith,
      take-append-le place xs ys,
      take-append-add xs ys (place - length xs),
      take_all (length
          xs) xs,
      one place p q,
      one (length xs) p q,
      other (place - length xs) p q,
      count_by-append,
    )

nothing_taken : (place : ℕ) → ◌≡◌ {A = List Task} (take place []) []
nothing_taken place = grind arith

fits_nothing : Fits []
fits_nothing place p q = rw (nothing_taken place) (omega arith)

fits_observation : (p : ℕ) (holds : Bool) → Fits (record { p = p; action = Observe holds } ∷ [])
fits_observation by holds place p q = grind (arith, nothing_taken)

fits_findings : (p : ℕ) → Fits (finds_both p)
fits_findings p = fits_both (record { p = p; action = Observe true } ∷ [])
    (record { p = p; action = Observe false } ∷ []) (fits_observation p true) (fits_observation p false)

-- a message from one process to another
abbrev passed : ℕ → ℕ → List Task
passed a b = record { p = a; action = Send b } ∷ record { p = b; action = Recv a } ∷ []

fits_passed : (a b : ℕ) → Fits (passed a b)
fits_passed a b place p q = grind (arith, common_steps)

-- ---- each receive beside its send

-- what was sent before the turn of p in a round, and is received in it
abbrev pending : ℕ → ℕ → ℕ → ℕ → List Task
pending n rounds round (suc p) = sent n rounds round p
pending n rounds zero zero = []
pending n rounds (suc round) zero = sent n rounds round (n - 1)

abbrev block : ℕ → ℕ → ℕ → ℕ → List Task
block n rounds round p = pending n rounds round p ++ (received n round p ++ finds_both p)

abbrev block_round : ℕ → ℕ → ℕ → List Task
block_round n rounds round = flat_map (block n rounds round) (range_with_len 0 n)

turn_shifted : (n rounds round p : ℕ)
    → pending n rounds round p ++ ring_turn n rounds round p ≡ block n rounds round p ++ pending n rounds round (p + 1)
turn_shifted n rounds round p = grind arith

next_round : (n rounds round : ℕ) → 1 ≤ n → pending n rounds round (0 + n) ≡ pending n rounds (round + 1) 0
next_round n rounds round some = grind arith

round_shifted : (n rounds round : ℕ) → 1 ≤ n → pending n rounds round 0 ++ ring_round n rounds round
    ≡ block_round n rounds round ++ pending n rounds (round + 1) 0
round_shifted n rounds round some =
    flat_map-range_shifted (ring_turn n rounds round) (block n rounds round) (pending n rounds round) 0 n
    (λ p inside. turn_shifted n rounds round p)
    ∙ ap (λ last. block_round n rounds round ++ last) (next_round n rounds round some)

nothing_left : (n rounds : ℕ) → 1 ≤ n → pending n rounds rounds 0 ≡ []
nothing_left n rounds some = grind arith

rounds_are : (n rounds : ℕ) → 1 ≤ n → flat_map (ring_round n rounds) (range_with_len 0 rounds) ≡ flat_map
    (block_round n rounds) (range_with_len 0 rounds)
rounds_are n rounds some =
    grind (
      arith,
      append-nil,
      nothing_left n rounds some,
      flat_map-range_shifted (ring_round n rounds) (block_round n
          rounds) (λ r. pending n rounds r 0) 0 rounds (λ r early. round_shifted n rounds r some),
    )

-- a block is a message that is passed, and what its receiver finds; but for the first
block_is : (n rounds round p : ℕ) → 2 ≤ n → round < rounds → p < n
    → block n rounds round p ≡ cond (eqb round 0 && eqb p 0) (finds_both p) (passed (before n p) p ++ finds_both p)
block_is n rounds round p several early inside = grind arith

-- ---- what is so of each block

each_block : (P : List Task → Type 0) → P [] → ((xs ys : List Task) → P xs → P ys → P (xs ++ ys)) → (n rounds : ℕ)
    → 2 ≤ n → ((p : ℕ) → p < n → P (finds_both p)) → ((p : ℕ) → p < n → P (passed (before n p) p))
    → P (flat_map (ring_round n rounds) (range_with_len 0 rounds))
each_block P none both n rounds several findings message =
    let one : (round p : ℕ) → round < rounds → p < n → P (block n rounds round p) = λ round p early inside.
    let is = block_is n rounds round p several early inside in
    let whole : P (passed (before n p) p ++ finds_both p) =
    both (passed (before n p) p) (finds_both p) (message p inside) (findings p inside) in
    rw is (cond_both (eqb round 0 && eqb p 0) (finds_both p) (passed (before n p) p ++ finds_both p) P
    (λ _. findings p inside) (λ _. whole)) in
    let round : (r : ℕ) → 0 ≤ r → r < 0 + rounds → P (block_round n rounds r) = λ r low early.
    flat_map-range_each (block n rounds r) P none both 0 n (λ p low inside. one r p (omega arith) (omega arith)) in
    rw (rounds_are n rounds (omega arith)) (flat_map-range_each (block_round n rounds) P none both 0 rounds round)

each_ring : (P : List Task → Type 0) → P [] → ((xs ys : List Task) → P xs → P ys → P (xs ++ ys))
    → (n rounds : ℕ) (fault : Bool) → 2 ≤ n → ((p : ℕ) → p < n → P (finds_both p))
    → ((p : ℕ) → p < n → P (passed (before n p) p)) → P (ring_tasks n rounds fault)
unfolding ring_tasks
each_ring P none both n rounds true several findings message =
    both (flat_map finds_both (range_with_len 1 (n - 1))) (flat_map (ring_round n rounds) (range_with_len 0 rounds))
    (flat_map-range_each finds_both P none both 1 (n - 1) (λ p low inside. findings p (omega arith)))
    (each_block P none both n rounds several findings message)
each_ring P none both n rounds false several findings message = each_block P none both n rounds several findings message

-- in no front are more messages received than sent
pub ring_fits : (n rounds : ℕ) (fault : Bool) → 2 ≤ n
    → IsFitOrder (ring_tasks n rounds fault) (ring_tasks n rounds fault)
ring_fits n rounds fault several = record {
  same_tasks = λ p. refl;
  sent_first = each_ring Fits fits_nothing fits_both n rounds fault several (λ p inside. fits_findings p)
      (λ p inside. fits_passed (before n p) p);
}

findings_within : (n p : ℕ) → p < n → All (IsWithin n) (finds_both p)
findings_within n p inside = All-from_recursion (IsWithin n) (finds_both p) ((inside, tt), ((inside, tt), tt))

passed_within : (n p : ℕ) → 2 ≤ n → p < n → All (IsWithin n) (passed (before n p) p)
passed_within n p several inside = grind arith

pub ring_within : (n rounds : ℕ) (fault : Bool) → 2 ≤ n → All (IsWithin n) (ring_tasks n rounds fault)
ring_within n rounds fault several =
    each_ring (All (IsWithin n)) (All-from_recursion (IsWithin n) [] tt) (λ xs ys one other. All-append (IsWithin n) xs
    ys one other) n rounds fault several (findings_within n) (λ p inside. passed_within n p several inside)

-- ---- how many they are

length-block : (n rounds round p : ℕ) → 2 ≤ n → round < rounds → p < n → 0 < round + p
    → length (block n rounds round p) ≡ 4
length-block n rounds round p several early inside later = grind arith

length-round : (n rounds round : ℕ) → 2 ≤ n → round < rounds → 0 < round → length (block_round n rounds round) ≡ 4 * n
length-round n rounds round several early later = length-flat_map-range (block n rounds round) 4 0 n
    (λ p low inside. length-block n rounds round p several early (omega arith) (omega arith))

length-first_round : (n rounds : ℕ) → 2 ≤ n → 0 < rounds → length (block_round n rounds 0) + 2 ≡ 4 * n
length-first_round zero rounds several early = absurd (omega arith)
length-first_round (suc m) rounds several early =
    let n : ℕ = suc m in
    let first : length (block n rounds 0 0) ≡ 2 = ap length (block_is n rounds 0 0 several early (omega arith)) in
    let rest = length-flat_map-range (block n rounds 0) 4 1 m
    (λ p low inside. length-block n rounds 0 p several early (omega arith) (omega arith)) in
    omega (arith, length-append (block n rounds 0 0) (flat_map (block n rounds 0) (range_with_len 1 m)), first, rest)

length-rounds : (n rounds : ℕ) → 2 ≤ n → 1 ≤ rounds
    → length (flat_map (ring_round n rounds) (range_with_len 0 rounds)) + 2 ≡ 4 * n * rounds
length-rounds n zero several some = absurd (omega arith)
length-rounds n (suc more) several some =
    let rounds : ℕ = suc more in
    let is = ap length (rounds_are n rounds (omega arith)) in
    let first = length-first_round n rounds several (omega arith) in
    let rest = length-flat_map-range (block_round n rounds) (4 * n) 1 more
    (λ r low early. length-round n rounds r several (omega arith) (omega arith)) in
    omega (
      arith,
      is,
      length-append (block_round n rounds 0) (flat_map (block_round n rounds) (range_with_len 1 more)),
      first,
      rest,
      mul-suc (4 * n) more,
    )

length-ring_fault : (n : ℕ) → length (ring_fault n true) ≡ 2 * (n - 1)
length-ring_fault n = length-flat_map-range finds_both 2 1 (n - 1) (λ p low inside. refl)

pub length-ring_tasks : (n rounds : ℕ) (fault : Bool) → 2 ≤ n → 1 ≤ rounds
    → length (ring_tasks n rounds fault) ≡ ring_length n rounds fault
unfolding ring_tasks
length-ring_tasks n rounds fault several some = grind (arith, length-append, length-ring_fault, length-rounds)

pub ring_could_be_read : (n rounds : ℕ) (fault : Bool) → 2 ≤ n → n ≤ 16 → 1 ≤ rounds → rounds ≤ 1000
    → CouldBeRead n (ring_tasks n rounds fault)
ring_could_be_read n rounds fault several few some few_rounds =
    grind (
      arith,
      ring_fits n rounds fault several,
      length-ring_tasks n rounds fault several some,
      ring_within n rounds fault several,
    )
