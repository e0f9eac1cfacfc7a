use Rattle.std.specs.Prelude.{◌≡◌, ℕ, ◌<◌, ◌↔◌, Bool, true, Option, None, Some, IsTrue, List, [], ◌∷◌, slice_get}
use Rattle.std.specs.Prelude.{if◌then◌else◌}

-- The first of some reasons, which stand in the order in which they count: it holds, and none before it does.
pub record IsFirstReason {R : Type 0} (Holds : R → Type 0) (reasons : List R) (first : R) : Type 0 where
  pub place : ℕ
  pub listed : slice_get reasons place ≡ Some first
  pub holds : Holds first
  pub none_before : (earlier : ℕ) (other : R) → earlier < place → slice_get reasons earlier ≡ Some other →
      ¬ Holds other

-- The same as a value, which an answer can be computed from, where each reason comes with its test. There are two forms
-- since not each reason has a test: that a path of a plan is too long is said of some path, and nothing computes it.
abbrev pub first_reason : {R : Type 0} → List (Bool × R) → Option R
first_reason [] = None
first_reason (reason ∷ reasons) = if reason.0 then Some reason.1 else first_reason reasons

-- The first-reason law: where each reason has its test, both forms say the same.
abbrev pub FirstReasonLaw : Type 0 → Type 0
FirstReasonLaw R =
    (reasons : List (Bool × R)) (first : R) → (first_reason reasons ≡ Some first)
    ↔ IsFirstReason (λ (reason : Bool × R). IsTrue reason.0) reasons (true, first)
