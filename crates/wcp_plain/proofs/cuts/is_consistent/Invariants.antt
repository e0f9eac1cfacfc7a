use Rattle.wcp_plain.proofs.Words.{ℕ, ◌<◌, ◌≢◌, member, HappenedBefore, Names}
use Rattle.wcp_plain.proofs.cuts.is_consistent.Given as goal

abbrev pub invariant-loop-p : goal.invariant-loop-p
invariant-loop-p l =
    (p : ℕ) → p < l.p → (q : ℕ) → Names l.cut p → Names l.cut q → p ≢ q
    → HappenedBefore l.steps (member l.cut p) (member l.cut q) → ⊥
