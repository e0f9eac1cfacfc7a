-- Where a list is split.
use Rattle.wcp_script.proofs.Words.{◌≡◌, ℕ, ◌+◌, ◌-◌, ◌≤◌, Bool, true, eqb, List, [], ◌∷◌, length, take, drop, Some}
use Rattle.wcp_script.proofs.Words.{None, ap, ◌∙◌, arith, slice_split, position, take_rest, fails_before_first}
use Rattle.wcp_script.proofs.Words.{slice_split_first, slice_split_none, length-slice_split, lines_among}
use Rattle.wcp_script.specs.Lines.{lines_of}

pub split_at_position : {X : Type 0} (p : X → Bool) (xs : List X) (i : ℕ) (d : X) → position p xs ≡ Some i
    → slice_split p xs ≡ take i xs ∷ slice_split p (take (length xs - (i + 1)) (drop (i + 1) xs))
split_at_position p xs i d e = grind (arith, slice_split_first, take_rest)

pub split_nowhere : {X : Type 0} (p : X → Bool) (xs : List X) → position p xs ≡ None → slice_split p xs ≡ xs ∷ []
split_nowhere p xs e = grind (arith, fails_before_first, slice_split_none)

-- What is split has at least one part.
pub some_part : {X : Type 0} (p : X → Bool) (xs : List X) → 1 ≤ length (slice_split p xs)
some_part p xs = omega (arith, length-slice_split p xs)

line_before : (bytes : List ℕ) (parts : List (List ℕ)) → 1 ≤ length parts
    → lines_among (bytes ∷ parts) ≡ record { bytes = bytes; ended = true } ∷ lines_among parts
line_before bytes parts some = grind arith

-- A line ends where the text is split, and the others are those of what follows.
pub lines_after : (text bytes rest : List ℕ) → slice_split (λ byte. eqb byte 10) text ≡ bytes ∷ slice_split
    (λ byte. eqb byte 10) rest → lines_of text ≡ record { bytes = bytes; ended = true } ∷ lines_of rest
unfolding lines_of
lines_after text bytes rest e = ap lines_among e
    ∙ line_before bytes (slice_split (λ byte. eqb byte 10) rest) (some_part (λ byte. eqb byte 10) rest)
