-- The records of a log, of which no two have one process or one name.
use Rattle.wullaphi_record.proofs.Words.{◌∙◌, ◌≡◌, ◌⊎◌, inl, inr, ◌<◌, ℕ, zero, suc, List, [], ◌∷◌, length, get_or, sym, ap}
use Rattle.wullaphi_record.proofs.Words.{subst, arith}
use Rattle.std.specs.Prelude.{Contains, ⊤}
use Rattle.wullaphi_record.specs.Recorded.{Recording}
use Rattle.wullaphi_record.specs.Logs.{AreDistinct, DifferFrom}

abbrev pub IsIn : Recording → List Recording → Type 0
IsIn one [] = ⊥
IsIn one (first ∷ others) = (first ≡ one) ⊎ IsIn one others

abbrev pub Distinct : List Recording → Type 0
Distinct [] = ⊤
Distinct (first ∷ others) = ((other : Recording) → IsIn other others → DifferFrom first other) × Distinct others

pub is_in : (all : List Recording) (k : ℕ) (one : Recording) → k < length all → get_or all k one ≡ one → IsIn one all
is_in [] k one within is = absurd (omega arith)
is_in (first ∷ others) zero one within is = inl is
is_in (first ∷ others) (suc k) one within is = inr (is_in others k one (omega arith) is)

pub contains : (all : List Recording) (one : Recording) → IsIn one all → Contains all one
contains [] one is = absurd is
contains (first ∷ others) one (inl is) = (0, omega arith, is)
contains (first ∷ others) one (inr later) =
    let there = contains others one later in
    (suc there.0, omega (arith, there.1), there.2)

pub distinct : (all : List Recording) → AreDistinct all → Distinct all
distinct [] are = tt
distinct (first ∷ others) are = (
  λ other later.
      let there = contains others other later in
      subst (DifferFrom first) there.2 (are 0 (suc there.0) other (omega arith) (omega (arith, there.1))),
  distinct others (λ i j d lower within. are (suc i) (suc j) d (omega arith) (omega arith)),
)

-- Two that have one process or one name are one.
pub same_process : (all : List Recording) (one other : Recording) → Distinct all → IsIn one all → IsIn other all
    → one.process ≡ other.process → one ≡ other
same_process [] one other are here there same = absurd here
same_process (first ∷ others) one other are (inl here) (inl there) same = sym here ∙ there
same_process (first ∷ others) one other are (inl here) (inr there) same =
    absurd ((are.0 other there).0 (ap (λ (r : Recording). r.process) here ∙ same))
same_process (first ∷ others) one other are (inr here) (inl there) same =
    absurd ((are.0 one here).0 (ap (λ (r : Recording). r.process) there ∙ sym same))
same_process (first ∷ others) one other are (inr here) (inr there) same =
    same_process others one other are.1 here there same

pub same_name : (all : List Recording) (one other : Recording) → Distinct all → IsIn one all → IsIn other all
    → one.name ≡ other.name → one ≡ other
same_name [] one other are here there same = absurd here
same_name (first ∷ others) one other are (inl here) (inl there) same = sym here ∙ there
same_name (first ∷ others) one other are (inl here) (inr there) same =
    absurd ((are.0 other there).1 (ap (λ (r : Recording). r.name) here ∙ same))
same_name (first ∷ others) one other are (inr here) (inl there) same =
    absurd ((are.0 one here).1 (ap (λ (r : Recording). r.name) there ∙ sym same))
same_name (first ∷ others) one other are (inr here) (inr there) same =
    same_name others one other are.1 here there same
