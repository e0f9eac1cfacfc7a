use Rattle.std.specs.Prelude.{ℕ}
use Rattle.wcp_model.specs.declared.outcome.Report.{Report}
use Rattle.wcp_model.specs.declared.outcome.Report.TheVariants.{Found, Nothing, Undecided}
use Rattle.wcp_clock.specs.ProcessNumbers.{NumberSet}
use Rattle.wcp_model.specs.Computation.{Computation}
use Rattle.wcp_model.specs.Cut.{Intervals, IsSatisfyingCut, IsLeastOf}

-- The report on the cuts of a kind: the least of them; that there is none, and all is drained; or that there is none
-- yet.
abbrev pub IsReportOn : ℕ → NumberSet → (Intervals → Type 0) → Type 0 → Report → Type 0
IsReportOn n watched IsOne drained (Found cut) = IsLeastOf n watched IsOne cut
IsReportOn n watched IsOne drained Nothing = ((cut : Intervals) → IsOne cut → ⊥) × drained
IsReportOn n watched IsOne drained Undecided = ((cut : Intervals) → IsOne cut → ⊥) × (drained → ⊥)

-- The report on a whole computation, where all is drained: its least cut, or that no satisfying cut exists (Garg and
-- Waldecker 1994).
abbrev pub IsReportOf : ℕ → NumberSet → Computation → Report → Type 0
IsReportOf n watched c = IsReportOn n watched (IsSatisfyingCut n watched c) (Unit {0})
