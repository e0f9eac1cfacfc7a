use Rattle.std.specs.Prelude.{◌≡◌, ◌≢◌, ℕ, ◌+◌, ◌<◌, ◌≤◌, true, false, List, [], ◌∷◌, ◌++◌, length, drop, sum_by}
use Rattle.std.specs.Prelude.{nat_lt, slice_index, slice_index_or, if◌then◌else◌}
use Rattle.wcp_queue.specs.Choices.{IsSatisfyingChoice, IsEliminatedBelow}
use Rattle.wcp_queue.specs.declared.floor.Floor.{Floor}
use Rattle.wcp_queue.specs.Floor.{component, has_head}

-- The queue of a process has the clocks of its snapshots that wait to be its head, the oldest first (Garg and Waldecker
-- 1994: the queue of a process).
abbrev pub queue_of : List (List (List ℕ)) → ℕ → List (List ℕ)
queue_of queues p = slice_index_or queues p []

-- How many snapshots wait.
abbrev pub waiting_in : List (List (List ℕ)) → ℕ
waiting_in queues = sum_by length queues

-- Elimination is at an end: nothing waits of a process without a head.
abbrev pub AreStable : List (List (List ℕ)) → Floor → Type 0
AreStable queues floor = (p : ℕ) → p < length queues → has_head floor p ≡ false → length (queue_of queues p) ≡ 0

-- It is but for p: nothing waits of another process without a head.
abbrev pub AreStableBut : ℕ → List (List (List ℕ)) → Floor → Type 0
AreStableBut p queues floor =
    (q : ℕ) → q < length queues → q ≢ p → has_head floor q ≡ false → length (queue_of queues q) ≡ 0

-- The most component tests that a snapshot of n processes costs: one of its own component, and one of each other.
abbrev pub tests_each : ℕ → ℕ
tests_each n = if nat_lt 1 n then n else 0

-- The candidate at a place of a row.
abbrev pub candidate : (ℕ → List (List ℕ)) → ℕ → ℕ → List ℕ
candidate rows p i = slice_index_or (rows p) i []

-- The head of p stands at its place of its row, and what comes after it waits; the floor has its own component.
pub record HasHead (rows : ℕ → List (List ℕ)) (heads : ℕ → ℕ) (queue : List (List ℕ)) (floor p : ℕ) : Type 0 where
  pub within : heads p < length (rows p)
  pub after : queue ≡ drop (heads p + 1) (rows p)
  pub own : floor ≡ slice_index (candidate rows p (heads p)) p

-- The candidate at this place of the row of another process q has the floor's component of p.
pub record KnowsOf (n : ℕ) (rows : ℕ → List (List ℕ)) (floor p q place : ℕ) : Type 0 where
  pub other : q ≢ p
  pub process : q < n
  pub within : place < length (rows q)
  pub known : floor ≡ slice_index (candidate rows q place) p

-- A candidate of another process, which is or was that one's head, has the floor's component of p.
abbrev pub WasRaised : ℕ → (ℕ → List (List ℕ)) → (ℕ → ℕ) → ℕ → ℕ → Type 0
WasRaised n rows heads floor p = (q place : ℕ) × (place ≤ heads q) × KnowsOf n rows floor p q place

-- Process p has no head: all from a place of its row on waits, and if the floor's component of p is above 0, a head of
-- another process raised it.
pub record HasNoHead (n : ℕ) (rows : ℕ → List (List ℕ)) (heads : ℕ → ℕ) (queue : List (List ℕ)) (floor p : ℕ)
    : Type 0 where
  pub within : heads p ≤ length (rows p)
  pub all : queue ≡ drop (heads p) (rows p)
  pub raised : 0 < floor → WasRaised n rows heads floor p

-- These queues and heads are what elimination leaves of the rows of all candidates taken: no satisfying choice lies
-- below the place of a head, and no head has a component above the floor (Garg and Waldecker 1994).
pub record AreLeft (n : ℕ) (rows : ℕ → List (List ℕ)) (queues : List (List (List ℕ))) (floor : Floor) : Type 0 where
  pub heads : ℕ → ℕ
  pub head : (p : ℕ) → p < n → has_head floor p ≡ true → HasHead rows heads (queue_of queues p) (component floor p) p
  pub none : (p : ℕ) → p < n → has_head floor p ≡ false →
      HasNoHead n rows heads (queue_of queues p) (component floor p) p
  pub under : (p q : ℕ) → p < n → q < n → p ≢ q → has_head floor q ≡ true →
      slice_index (candidate rows q (heads q)) p ≤ component floor p
  pub eliminated : IsEliminatedBelow n rows heads

-- A cut that was found is that of a satisfying choice of the rows below which all is eliminated.
pub record IsFoundAmong (n : ℕ) (rows : ℕ → List (List ℕ)) (cut : List ℕ) : Type 0 where
  pub members : length cut ≡ n
  pub choice : ℕ → ℕ
  pub satisfying : IsSatisfyingChoice n rows choice
  pub eliminated : IsEliminatedBelow n rows choice
  pub own : (p : ℕ) → p < n → slice_index cut p ≡ slice_index (candidate rows p (choice p)) p

-- The row of p gains a candidate at its end, and the others stay.
pub record GainCandidate (n p : ℕ) (clock : List ℕ) (rows longer : ℕ → List (List ℕ)) : Type 0 where
  pub gained : longer p ≡ rows p ++ clock ∷ []
  pub others : (q : ℕ) → q < n → q ≢ p → longer q ≡ rows q

-- The first snapshot that waits of p leaves its queue.
pub record LeavesQueue (n p : ℕ) (clock : List ℕ) (before after : List (List (List ℕ))) : Type 0 where
  pub next : queue_of before p ≡ clock ∷ queue_of after p
  pub rest : (q : ℕ) → q < n → q ≢ p → queue_of after q ≡ queue_of before q

-- A snapshot of p, the first that waited, was compared with the floor: whatever rows the queues with it and the old
-- heads are what is left of, the queues without it and the new heads are so too.
abbrev pub Compares : ℕ → List ℕ → List (List (List ℕ)) → Floor → Floor → Type 0
Compares p clock queues old new = (rows : ℕ → List (List ℕ)) (before : List (List (List ℕ))) →
    LeavesQueue (length queues) p clock before queues →
    AreLeft (length queues) rows before old → AreLeft (length queues) rows queues new

-- Heads were eliminated: whatever rows of candidates the old queues and heads are what is left of, the new ones are so
-- too.
abbrev pub Eliminates : List (List (List ℕ)) → Floor → List (List (List ℕ)) → Floor → Type 0
Eliminates old old_floor new new_floor = (rows : ℕ → List (List ℕ)) →
    AreLeft (length old) rows old old_floor → AreLeft (length old) rows new new_floor

-- A candidate of p was added and heads were eliminated: the new queues and heads are what is left of the old rows,
-- where that of p has gained the candidate.
abbrev pub AddsCandidate : ℕ → List ℕ → List (List (List ℕ)) → Floor → List (List (List ℕ)) → Floor → Type 0
AddsCandidate p clock old old_floor new new_floor = (rows longer : ℕ → List (List ℕ)) →
    GainCandidate (length old) p clock rows longer → AreLeft (length old) rows old old_floor →
    AreLeft (length old) longer new new_floor
