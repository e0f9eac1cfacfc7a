-- Which lines are text.
use Rattle.trace_log.proofs.Words.{◌≡◌, ℕ, ◌<◌, true, false, List, length, Option, Some, None, Ok, Err, MatchOption}
use Rattle.trace_log.proofs.Words.{eqb}
use Rattle.trace_log.proofs.Words.{arith, Bor, position_or_len, before_first, after_first, IsUtf8, is_utf8}
use Rattle.trace_log.proofs.Words.{false_from_ne_true, option_map}
use Rattle.std.proofs.lemmas.Str.Pattern.{IsSplitOnceResult, split_once_first}
use Rattle.std.proofs.lemmas.Str.{IsUtf8-from_is_utf8, is_utf8-from_IsUtf8}
use Rattle.trace_log.specs.declared.fault.LogFaultKind.TheVariants.{Text}
use Rattle.trace_log.specs.Event.{host_and_rest}
unfoldable use Rattle.trace_log.specs.Numbered.{cut_at}

pub utf8_passes : (line : List ℕ) → IsUtf8 line → is_utf8 line ≡ true
utf8_passes line utf8 = is_utf8-from_IsUtf8 line utf8

pub not_utf8 : (line : List ℕ) → (IsUtf8 line → ⊥) → is_utf8 line ≡ false
not_utf8 line none = false_from_ne_true (is_utf8 line) (λ passes. none (IsUtf8-from_is_utf8 line passes))

parts_at : (text : List ℕ) (r : Option (Bor (List ℕ) × Bor (List ℕ)))
    → MatchOption r (position_or_len (λ b. eqb b 32) text ≡ length text)
    (λ x. (position_or_len (λ b. eqb b 32) text < length text) × (x.0.now ≡ before_first (λ b. eqb b 32) text)
    × (x.1.now ≡ after_first (λ b. eqb b 32) text))
    → MatchOption r (host_and_rest text ≡ Err Text) (λ parts. host_and_rest text ≡ Ok (parts.0.now, parts.1.now))
unfolding host_and_rest
parts_at text None nowhere = grind arith
parts_at text (Some parts) found =
    let within = found.0 in
    let first = found.1 in
    let second = found.2 in
    grind arith

cut : (mark : ℕ) (text : List ℕ) (r : Option (Bor (List ℕ) × Bor (List ℕ)))
    → MatchOption r (position_or_len (λ b. eqb b mark) text ≡ length text)
    (λ x. (position_or_len (λ b. eqb b mark) text < length text) × (x.0.now ≡ before_first (λ b. eqb b mark) text)
    × (x.1.now ≡ after_first (λ b. eqb b mark) text))
    → option_map (λ parts. (parts.0.now, parts.1.now)) r ≡ cut_at mark text
unfolding cut_at
cut mark text None nowhere = grind arith
cut mark text (Some parts) found =
    let within = found.0 in
    let first = found.1 in
    let second = found.2 in
    grind arith

-- The parts of a text that is split at the first of these bytes.
pub parts_cut : (mark : ℕ) (text : List ℕ) (r : Option (Bor (List ℕ) × Bor (List ℕ))) → mark < 128
    → IsSplitOnceResult mark text r → option_map (λ parts. (parts.0.now, parts.1.now)) r ≡ cut_at mark text
parts_cut mark text r ascii split = cut mark text r (split_once_first mark text r split (omega arith))

-- A text is split at its first space.
pub cut_once : (text : List ℕ) (r : Option (Bor (List ℕ) × Bor (List ℕ))) → IsSplitOnceResult 32 text r
    → MatchOption r (host_and_rest text ≡ Err Text) (λ parts. host_and_rest text ≡ Ok (parts.0.now, parts.1.now))
cut_once text r split = parts_at text r (split_once_first 32 text r split (omega arith))
