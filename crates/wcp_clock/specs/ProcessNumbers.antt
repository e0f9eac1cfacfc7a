use Rattle.std.specs.Prelude.{◌≡◌, ℕ, ◌<◌, true}
use Rattle.std.specs.Ordering.{nat_cmp}
use Rattle.std.specs.Coded.{Coded, coded_ℕ}
use Rattle.std.specs.FinSet as set
use Rattle.wcp_clock.specs.Limits.{most_processes}

-- A set of processes, by their numbers.
abbrev pub NumberSet : Type 0
NumberSet = set.FinSet nat_cmp

-- The code by which two values with such a set inside are told apart.
abbrev pub numbers_code : Coded NumberSet
numbers_code = set.code coded_ℕ

-- Every number of the set is below 16.
abbrev pub AreProcessNumbers : NumberSet → Type 0
AreProcessNumbers numbers = (p : ℕ) → set.contains numbers p ≡ true → p < most_processes
