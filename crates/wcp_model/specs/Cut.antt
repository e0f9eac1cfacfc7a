use Rattle.std.specs.Prelude.{◌≡◌, ◌≢◌, ℕ, ◌<◌, ◌≤◌, List, length, slice_index_or, Option, None, is_some, unwrap_or}
use Rattle.std.specs.FinSet as set
use Rattle.wcp_clock.specs.ProcessNumbers.{NumberSet}
use Rattle.wcp_model.specs.declared.state.State.{State}
use Rattle.wcp_model.specs.Computation.{Computation, IsTrueState}
use Rattle.wcp_model.specs.Order.{HappenedBefore}
use Rattle.wcp_model.specs.Watched.{IsWatched}

-- A cut names one state of each watched process: the list of the intervals of the n processes, with none where a
-- process isn't watched (Mattern 1989).
abbrev pub Intervals : Type 0
Intervals = List (Option ℕ)

-- The interval that a cut names of a process, and 0 where it names none.
abbrev pub interval_of : Intervals → ℕ → ℕ
interval_of cut p = unwrap_or (slice_index_or cut p None) 0

abbrev pub member : Intervals → ℕ → State
member cut p = record { process = p; interval = interval_of cut p }

-- It names a state of each of the n processes that is watched, and of no other.
pub record NamesWatched (n : ℕ) (watched : NumberSet) (cut : Intervals) : Type 0 where
  pub processes : length cut ≡ n
  pub named : (p : ℕ) → p < n → is_some (slice_index_or cut p None) ≡ set.contains watched p

-- A cut is consistent if no member happened before another (Chandy and Lamport 1985; Mattern 1989).
abbrev pub IsConsistent : ℕ → NumberSet → Computation → Intervals → Type 0
IsConsistent n watched c cut = (p q : ℕ) → IsWatched n watched p → IsWatched n watched q → p ≢ q →
    HappenedBefore c (member cut p) (member cut q) → ⊥

-- A cut is satisfying if it is consistent and each member is true: the weak conjunctive predicate (Garg and Waldecker
-- 1994).
pub record IsSatisfyingCut (n : ℕ) (watched : NumberSet) (c : Computation) (cut : Intervals) : Type 0 where
  pub members : NamesWatched n watched cut
  pub consistent : IsConsistent n watched c cut
  pub true_states : (p : ℕ) → IsWatched n watched p → IsTrueState c (member cut p)

-- One cut lies at or below another if its member does at each watched process.
abbrev pub IsAtOrBelow : ℕ → NumberSet → Intervals → Intervals → Type 0
IsAtOrBelow n watched cut other = (p : ℕ) → IsWatched n watched p → interval_of cut p ≤ interval_of other p

-- The least of the cuts of a kind is one that lies at or below each of them.
pub record IsLeastOf (n : ℕ) (watched : NumberSet) (IsOne : Intervals → Type 0) (cut : Intervals) : Type 0 where
  pub one : IsOne cut
  pub below : (other : Intervals) → IsOne other → IsAtOrBelow n watched cut other

-- The least cut of a computation is the least of its satisfying cuts (Garg and Waldecker 1994).
abbrev pub IsLeastCut : ℕ → NumberSet → Computation → Intervals → Type 0
IsLeastCut n watched c = IsLeastOf n watched (IsSatisfyingCut n watched c)
