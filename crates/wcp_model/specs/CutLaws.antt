use Rattle.std.specs.Prelude.{ℕ, min, [], ◌∷◌, Option, Some, None}
use Rattle.wcp_clock.specs.ProcessNumbers.{NumberSet}
use Rattle.wcp_model.specs.Computation.{Computation}
use Rattle.wcp_model.specs.Cut.{Intervals, IsSatisfyingCut, IsLeastCut}

-- The componentwise minimum of two cuts.
abbrev pub lesser : Option ℕ → Option ℕ → Option ℕ
lesser (Some k) (Some l) = Some (min k l)
lesser (Some k) None = None
lesser None other = None

abbrev pub minimum : Intervals → Intervals → Intervals
minimum (k ∷ ks) (l ∷ ls) = lesser k l ∷ minimum ks ls
minimum [] ls = []
minimum (k ∷ ks) [] = []

-- The minimum law: satisfying cuts are closed under the minimum (Garg and Waldecker 1994).
abbrev pub MinimumLaw : Type 0
MinimumLaw =
    (n : ℕ) (watched : NumberSet) (c : Computation) (one other : Intervals) → IsSatisfyingCut n watched c one →
    IsSatisfyingCut n watched c other → IsSatisfyingCut n watched c (minimum one other)

-- Where there is a satisfying cut, there is a least one.
abbrev pub LeastCutLaw : Type 0
LeastCutLaw =
    (n : ℕ) (watched : NumberSet) (c : Computation) (cut : Intervals) → IsSatisfyingCut n watched c cut →
    (least : Intervals) × IsLeastCut n watched c least
