use Rattle.std.specs.Prelude.{◌≡◌, ℕ, zero, suc, ◌+◌, ◌-◌, ◌<◌, List, length, slice_index_or}
use Rattle.std.specs.FinSet as set
use Rattle.wcp_clock.specs.ProcessNumbers.{NumberSet}

-- The pairs of two of n processes, the lesser number first, in order: (0, 1), (0, 2), .., (1, 2), ..

-- The set of the two processes of a pair.
abbrev pub pair_of : ℕ → ℕ → NumberSet
pair_of a b = set.insert (set.insert set.empty a) b

-- How many pairs come before the first whose lesser number is a; at n, how many pairs there are.
abbrev pub pairs_before : ℕ → ℕ → ℕ
pairs_before n zero = 0
pairs_before n (suc a) = pairs_before n a + (n - suc a)

-- The number of a pair among them, counted from 0.
abbrev pub pair_number : ℕ → ℕ → ℕ → ℕ
pair_number n a b = pairs_before n a + (b - suc a)

-- A pair stands at its number in this list.
pub record IsListedPair (n : ℕ) (sets : List NumberSet) (a b : ℕ) : Type 0 where
  pub within : pair_number n a b < length sets
  pub here : slice_index_or sets (pair_number n a b) set.empty ≡ pair_of a b

-- These sets are the pairs of n processes that come before the pair (a, b), in order.
pub record ArePairsBefore (n : ℕ) (sets : List NumberSet) (a b : ℕ) : Type 0 where
  pub as_many : length sets ≡ pair_number n a b
  pub lesser : (c d : ℕ) → c < d → d < n → c < a → IsListedPair n sets c d
  pub own : (d : ℕ) → a < d → d < n → d < b → IsListedPair n sets a d

-- These sets are the pairs of n processes, in order.
pub record ArePairs (n : ℕ) (sets : List NumberSet) : Type 0 where
  pub as_many : length sets ≡ pairs_before n n
  pub each : (a b : ℕ) → a < b → b < n → IsListedPair n sets a b
