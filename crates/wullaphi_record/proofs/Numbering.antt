-- The numbers in the clocks of a log.
use Rattle.wullaphi_record.proofs.Words.{◌≡◌, ◌≢◌, ◌∙◌, inl, inr, ◌<◌, ◌≤◌, ℕ, zero, suc, ◌+◌, Bool, true, false, cond}
use Rattle.wullaphi_record.proofs.Words.{List, [], ◌∷◌, length, map, refl, sym, ap, arith, max, nat_lt}
use Rattle.wullaphi_record.proofs.Words.{nat_tests, prefix_len, bytes_same, bytes_differ, ◌==◌}
use Rattle.std.proofs.lemmas.List.Sums.{prefix_len_passes, prefix_len_stops, prefix_len-le-length}
unfoldable use Rattle.trace_log.specs.Clock.{number_of}
use Rattle.wullaphi_record.specs.Recorded.{Recorded, Recording, AreInOrder, counted, nothing, recorded_at}
use Rattle.wullaphi_record.specs.Logs.{known_events, member_of, number_in, number_known}
use Rattle.wullaphi_record.proofs.Among.{IsIn, Distinct}

-- No record has the name.
pub number_none : (own : Recording) (i : ℕ) (name : List ℕ) (all : List Recording)
    → ((other : Recording) → IsIn other all → other.name ≢ name) → number_of name (map (member_of own i) all) ≡ 0
unfolding number_of
number_none own i name [] none = refl
number_none own i name (first ∷ others) none =
    rw (bytes_differ first.name name (none first (inl refl)))
    (number_none own i name others (λ other later. none other (inr later)))

-- The number of a record that is there.
pub number_some : (own : Recording) (i : ℕ) (all : List Recording) (one : Recording) → Distinct all → IsIn one all
    → number_of one.name (map (member_of own i) all) ≡ number_in own i one
unfolding number_of
number_some own i [] one are here = absurd here
number_some own i (first ∷ others) one are (inl is) =
    let none = number_none own i one.name others (λ other later same.
    (are.0 other later).1 (ap (λ (r : Recording). r.name) is ∙ sym same)) in
    rw (bytes_same first.name one.name (ap (λ (r : Recording). r.name) is), none)
    (ap (λ r. max (number_in own i r) 0) is ∙ omega arith)
number_some own i (first ∷ others) one are (inr later) =
    rw (bytes_differ first.name one.name (are.0 one later).1) (number_some own i others one are.1 later)

-- More are known by a greater count.
known_more : (process c d : ℕ) → c ≤ d → (events : List Recorded)
    → prefix_len (λ one. nat_lt (counted process one) c) events ≤ prefix_len (λ one. nat_lt (counted process one) d) events
known_more process c d le [] = omega arith
known_more process c d le (one ∷ events) =
    by (nat_lt (counted process one) c) (nat_lt (counted process one) d) refl refl (known_more process c d le events)
  where
    by : {m n : ℕ} (a b : Bool) → nat_lt (counted process one) c ≡ a → nat_lt (counted process one) d ≡ b → m ≤ n
        → cond a (1 + m) 0 ≤ cond b (1 + n) 0
    by true true fewer more rest = omega arith
    by true false fewer more rest = grind (arith, nat_tests)
    by false b fewer more rest = omega arith

is_some : (n : ℕ) → (suc n == 0) ≡ false
is_some n = grind (arith, nat_tests)

number_more : (known more passed : ℕ) → known ≤ more
    → cond (known == 0) 0 (passed + known) ≤ cond (more == 0) 0 (passed + more)
number_more zero more passed le = omega arith
number_more (suc known) zero passed le = absurd (omega arith)
number_more (suc known) (suc more) passed le = rw (is_some known, is_some more) (omega arith)

pub known_rises : (one : Recording) (c d : ℕ) → c ≤ d → number_known one c ≤ number_known one d
known_rises one c d le = number_more _ _ one.passed (known_more one.process c d le one.events)

pub known_within : (one : Recording) (c : ℕ) → number_known one c ≤ one.passed + length one.events
known_within one c = by (known_events one c) (prefix_len-le-length _ one.events)
  where
    by : (known : ℕ) → known ≤ length one.events → cond (known == 0) 0 (one.passed + known) ≤ one.passed + length one.events
    by zero le = omega arith
    by (suc known) le = rw (is_some known) (omega arith)

-- The number reaches an event exactly where the event comes before that count.
reached : (known passed j : ℕ) → passed + j + 1 ≤ cond (known == 0) 0 (passed + known) → j < known
reached zero passed j le = absurd (omega arith)
reached (suc known) passed j le =
    let number : cond (suc known == 0) 0 (passed + suc known) ≡ passed + suc known = rw (is_some known) refl in
    omega (arith, number, le)

reaches : (known passed j : ℕ) → j < known → passed + j + 1 ≤ cond (known == 0) 0 (passed + known)
reaches zero passed j le = absurd (omega arith)
reaches (suc known) passed j le = rw (is_some known) (omega arith)

pub known_before : (one : Recording) (c j : ℕ) → j < length one.events → one.passed + j + 1 ≤ number_known one c
    → counted one.process (recorded_at one.events j) < c
known_before one c j within le =
    let known = reached (known_events one c) one.passed j le in
    let passes = prefix_len_passes (λ e. nat_lt (counted one.process e) c) one.events j nothing known in
    grind (arith, nat_tests)

pub before_known : (one : Recording) (c j : ℕ) → AreInOrder one.events → j < length one.events
    → counted one.process (recorded_at one.events j) < c → one.passed + j + 1 ≤ number_known one c
before_known one c j in_order within before =
    reaches (known_events one c) one.passed j (by (known_events one c) refl (nat_lt j (known_events one c)) refl)
  where
    by : (known : ℕ) → known ≡ known_events one c → (b : Bool) → nat_lt j known ≡ b → j < known_events one c
    by known same true is = grind (arith, nat_tests)
    by known same false is =
        let le : known ≤ j = grind (arith, nat_tests) in
        let stops = prefix_len_stops (λ e. nat_lt (counted one.process e) c) one.events nothing (omega (arith, le, same)) in
        let rises = in_order (known_events one c) j (omega (arith, le, same)) within one.process in
        absurd (grind (arith, nat_tests))
