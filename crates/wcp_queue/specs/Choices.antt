use Rattle.std.specs.Prelude.{◌≡◌, ◌≢◌, ℕ, ◌<◌, ◌≤◌, List, [], ◌++◌, length, slice_index, slice_index_or}

-- Elimination searches rows of candidates: for each of n processes the clocks of its snapshots, in order (Garg and
-- Waldecker 1994: the queues of the checker process).

-- A snapshot of p precedes one of q by their clocks if its own component is less than the other's there (Fidge 1988;
-- Mattern 1989).
abbrev pub ClockPrecedes : ℕ → List ℕ → ℕ → List ℕ → Type 0
ClockPrecedes p one q other = slice_index one p < slice_index other p

-- The candidate at place i of the row of p precedes the one at place j of the row of q.
abbrev pub PrecedesAt : (ℕ → List (List ℕ)) → ℕ → ℕ → ℕ → ℕ → Type 0
PrecedesAt rows p i q j = ClockPrecedes p (slice_index_or (rows p) i []) q (slice_index_or (rows q) j [])

-- A choice takes one candidate of each row, by its place; it is satisfying if none precedes another.
pub record IsSatisfyingChoice (n : ℕ) (rows : ℕ → List (List ℕ)) (choice : ℕ → ℕ) : Type 0 where
  pub within : (p : ℕ) → p < n → choice p < length (rows p)
  pub concurrent : (p q : ℕ) → p < n → q < n → p ≢ q → PrecedesAt rows p (choice p) q (choice q) → ⊥

-- The rows are in the order of their processes: what precedes a candidate precedes each later one of its row.
pub record AreInOrder (n : ℕ) (rows : ℕ → List (List ℕ)) : Type 0 where
  pub later : (p q i j k : ℕ) → p < n → q < n → p ≢ q → i < length (rows p) → j ≤ k → k < length (rows q) →
      PrecedesAt rows p i q j → PrecedesAt rows p i q k

-- The rows of the n processes grow at their ends to longer ones.
abbrev pub GrowTo : ℕ → (ℕ → List (List ℕ)) → (ℕ → List (List ℕ)) → Type 0
GrowTo n rows longer = (p : ℕ) → p < n → (more : List (List ℕ)) × (longer p ≡ rows p ++ more)

-- All below these heads, a place in each row, is eliminated: no satisfying choice of the rows, or of what they grow to
-- in order, takes a candidate below a head (Garg and Waldecker 1994).
pub record IsEliminatedBelow (n : ℕ) (rows : ℕ → List (List ℕ)) (heads : ℕ → ℕ) : Type 0 where
  pub at_or_above : (longer : ℕ → List (List ℕ)) → GrowTo n rows longer → AreInOrder n longer →
      (choice : ℕ → ℕ) → IsSatisfyingChoice n longer choice → (p : ℕ) → p < n → heads p ≤ choice p
