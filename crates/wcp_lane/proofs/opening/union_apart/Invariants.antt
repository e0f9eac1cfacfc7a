use Rattle.wcp_lane.proofs.Words.{◌≡◌, ℕ, take, All, list_any, AreApart, AreProcessNumbers, Numbers}
use Rattle.std.specs.FinSet as set
use Rattle.wcp_lane.proofs.opening.union_apart.Given as goal

abbrev pub invariant-loop-numbers : goal.invariant-loop-numbers
invariant-loop-numbers l = record {
  among : (p : ℕ)
      → set.contains l.all p ≡ list_any (λ (s : Numbers). set.contains s p) (take l.numbers-index l.member_sets);
  apart : AreApart (take l.numbers-index l.member_sets);
  within : All AreProcessNumbers (take l.numbers-index l.member_sets);
}
