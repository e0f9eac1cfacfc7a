use Rattle.wcp_queue.proofs.Words.{IfSome, Option, MatchOption, IsCutOfHeads, Floor, ◌∙◌, true, has_head, ⊎_elim}
use Rattle.wcp_queue.proofs.Words.{cases_lt, get_or, get_or_default, NumberSet, processes, AreSomeWatched, members_of}
use Rattle.wcp_queue.proofs.Words.{ap, List, Some, ◌≡◌, ℕ, ◌<◌, ◌≤◌, ltb, arith, ◌+◌, ◌*◌, ◌^◌, false, None, [], length}
use Rattle.wcp_queue.proofs.Words.{set, replicate, sum, cond-true, lt-ltb, tests_each, AreStable, waiting_in}
use Rattle.wcp_queue.proofs.Words.{common_steps, length-replicate, get_or-replicate, sum_by-le, sum_by-replicate}
use Rattle.wcp_queue.proofs.Words.{first_floor, HaveHeads, CheckerState, taken_of, IsSoundChecker}
use Rattle.std.proofs.lemmas.Nat.{mul-le}
use Rattle.wcp_queue.proofs.WatchedRows.{some_rows, few_rows, member_is_watched}

-- a snapshot costs at most a test for each process
pub tests_each-le : (n : ℕ) → tests_each n ≤ n
tests_each-le n = grind arith

-- and where there are several just as many
pub tests_each-several : (n : ℕ) → 1 < n → tests_each n ≡ n
tests_each-several n several = cond-true (ltb 1 n) n 0 (lt-ltb 1 n several)

-- where one process has a head and not each of them, there is room for a snapshot more that waits
pub room_to_wait : (n p waiting : ℕ) (floor : Floor) → p < n → has_head floor p ≡ true → (HaveHeads n floor → ⊥)
    → floor.tests + tests_each n * (waiting + 1) < 2 ^ 64 → waiting + 1 < 2 ^ 64
room_to_wait n p waiting floor within head waits room = ⊎_elim
    (λ (several : 1 < n). grind (arith, tests_each-several n several))
    (λ (alone : n ≤ 1). absurd
    (waits (λ q q_within. ap (has_head floor) (omega (arith, within, alone, q_within)) ∙ head)))
    (cases_lt 1 n)

-- the cut of the heads has an interval for each row
pub intervals_of_heads : (found : Option (List ℕ)) (n rows : ℕ) (floor : Floor) (Waits : Type 0)
    → MatchOption found Waits (IsCutOfHeads n floor) → n ≡ rows → IfSome found (λ intervals. length intervals ≡ rows)
intervals_of_heads None n rows floor Waits is same = tt
intervals_of_heads (Some intervals) n rows floor Waits is same = is.members ∙ same

-- a checker that has taken nothing
abbrev pub fresh_checker : ℕ → NumberSet → List ℕ → CheckerState
fresh_checker n watched members = record {
  count = n;
  watched = watched;
  members = members;
  queues = replicate (length members) [];
  floor = first_floor;
  taken = replicate 16 0;
  closed = replicate 16 false;
  lost = replicate 16 false;
  found = None;
  starved = false;
}

pub IsSoundChecker-fresh : (n : ℕ) (watched : NumberSet) (members : List ℕ) → n ≤ 16 → AreSomeWatched n watched
    → members ≡ members_of n watched → IsSoundChecker (fresh_checker n watched members)
IsSoundChecker-fresh n watched members few are is =
    let some : 0 < length members = omega (arith, some_rows n watched are, ap length is) in
    let fits : length members ≤ 16 = omega (arith, few_rows n watched, ap length is) in
    grind (arith, get_or-replicate, length-replicate, sum_by-replicate)

module _ (old : CheckerState) (sound : IsSoundChecker old) where
  few_in_all : sum old.taken ≤ 16 * 2 ^ 32
  few_in_all = omega (
    arith,
    sound.counts,
    sum_by-le (λ x. x) (2 ^ 32) old.taken sound.few_taken,
    mul-le (length old.taken) (2 ^ 32) 16 (2 ^ 32) (omega (arith, sound.counts)) (omega arith),
  )

  -- there are at most 16 rows
  pub few_queues : length old.queues ≤ 16
  few_queues =
      omega (arith, sound.few, sound.rows, ap length sound.members, few_rows old.count old.watched)

  -- the members are processes
  pub members_few : (k d : ℕ) → k < length old.members → get_or old.members k d < 16
  members_few k d below = rw sound.members (few_member (omega (arith, ap length sound.members)))
    where
      few_member : k < length (members_of old.count old.watched) → get_or (members_of old.count old.watched) k d < 16
      few_member within = omega (
        arith,
        sound.few,
        (member_is_watched old.count old.watched k within).below,
        get_or_default (members_of old.count old.watched) k 0 d within,
      )

  -- and one at least
  pub some_queue : 0 < length old.queues
  some_queue = omega (arith, sound.rows, ap length sound.members, some_rows old.count old.watched sound.watched)

  -- the count of component tests stays far below its limit
  pub room_for_tests : old.floor.tests + tests_each (length old.queues) * (waiting_in old.queues + 1) < 2 ^ 64
  room_for_tests = grind (arith, few_in_all, few_queues, tests_each-le)

  -- a snapshot more
  pub IsSoundChecker-snapshot : (new : CheckerState) (p : ℕ) → p < length old.taken → taken_of old p < 4294967296
      → new.taken ≡ set old.taken p (taken_of old p + 1) → new.closed ≡ old.closed → new.lost ≡ old.lost
      → length new.queues ≡ length old.queues → new.count ≡ old.count → new.watched ≡ old.watched
      → new.members ≡ old.members → IfSome new.found (λ intervals. length intervals ≡ length old.members) →
      AreStable new.queues new.floor → (new.found ≡ None → HaveHeads (length old.queues) new.floor → ⊥) →
      new.floor.tests + tests_each (length old.queues) * waiting_in new.queues ≤ old.floor.tests + tests_each
      (length old.queues) * (waiting_in old.queues + 1) → IsSoundChecker new
  IsSoundChecker-snapshot new p within few taken closed lost rows count watched members intervals stable waiting tests =
      grind (arith, common_steps)

  -- a snapshot costs at most a test for each process
  pub few_tests : (count : ℕ) → sum old.taken ≡ count → old.floor.tests ≤ processes old * count
  few_tests count is =
      let rows : length old.queues ≤ processes old =
      omega (arith, sound.rows, ap length sound.members, few_rows old.count old.watched) in
      let each : tests_each (length old.queues) ≤ processes old = omega (arith, tests_each-le (length old.queues)) in
      omega (
        arith,
        sound.bound,
        mul-le (tests_each (length old.queues)) (sum old.taken) (processes old) count each (omega arith),
      )
