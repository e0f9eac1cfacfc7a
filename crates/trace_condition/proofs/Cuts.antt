-- Words HOST=EXPRESSION.
use Rattle.trace_condition.proofs.Words.{◌≡◌, ℕ, ◌<◌, List, length, Option, MatchOption, eqb, arith, Bor}
use Rattle.trace_condition.proofs.Words.{position_or_len}
use Rattle.trace_condition.proofs.Words.{before_first, after_first}
use Rattle.std.proofs.lemmas.Str.Pattern.{IsSplitOnceResult, split_once_first}

-- A text is cut at its first `=`.
pub cut_once : (text : List ℕ) (r : Option (Bor (List ℕ) × Bor (List ℕ))) → IsSplitOnceResult 61 text r
    → MatchOption r (position_or_len (λ b. eqb b 61) text ≡ length text)
    (λ x. (position_or_len (λ b. eqb b 61) text < length text) × (x.0.now ≡ before_first (λ b. eqb b 61) text) ×
    (x.1.now ≡ after_first (λ b. eqb b 61) text))
cut_once text r split = split_once_first 61 text r split (omega arith)
