use Rattle.wcp_plain.proofs.Words.{ℕ, ◌<◌, ◌≢◌, member, HappenedBefore, Names}
use Rattle.wcp_plain.proofs.cuts.precedes_another.Given as goal

abbrev pub invariant-loop-q : goal.invariant-loop-q
invariant-loop-q l =
    (q : ℕ) → q < l.q → Names l.cut q → l.p ≢ q → HappenedBefore l.steps (member l.cut l.p) (member l.cut q) → ⊥
