use Rattle.std.specs.Prelude.{◌≡◌, ℕ, ◌<◌, true, nat_lt}
use Rattle.std.specs.FinSet as set
use Rattle.wcp_clock.specs.ProcessNumbers.{NumberSet}

-- Process p is one of the n processes and is watched: it has a condition, a conjunct of the predicate (Garg and
-- Waldecker 1994).
pub record IsWatched (n : ℕ) (watched : NumberSet) (p : ℕ) : Type 0 where
  pub below : p < n
  pub member : set.contains watched p ≡ true

-- Each of the n processes is watched, and no other number is in the set.
abbrev pub AreAllWatched : ℕ → NumberSet → Type 0
AreAllWatched n watched = (p : ℕ) → set.contains watched p ≡ nat_lt p n

-- Some of the n processes are watched, and nobody else.
pub record AreSomeWatched (n : ℕ) (watched : NumberSet) : Type 0 where
  pub some : (p : ℕ) × (set.contains watched p ≡ true)
  pub within : (p : ℕ) → set.contains watched p ≡ true → p < n
