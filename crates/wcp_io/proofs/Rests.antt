-- A text of which a prefix was written.
use Rattle.std.proofs.Common.{◌≡◌, ℕ, ◌+◌, ◌-◌, ◌≤◌, List, length, take, drop, Option, arith, length-drop}
use Rattle.std.proofs.KnownBytes.{Appends-trans}
use Rattle.std.proofs.Math.Seq.{take-add}
use Rattle.std.proofs.lemmas.List.{take_all}
use Rattle.std.specs.Io.KnownBytes.{Appends}

-- The rest of a text, cut to its length, is the rest.
rest-cut : (text : List ℕ) (i : ℕ) → take (length text - i) (drop i text) ≡ drop i text
rest-cut text i = take_all (length text - i) (drop i text) (omega (arith, length-drop i text))

-- A writer that took a prefix of a text, and then a prefix of the rest, took a longer front.
pub front_more : (a b c : Option (List ℕ)) (text : List ℕ) (i n : ℕ) → Appends a b (take i text)
    → Appends b c (take n (take (length text - i) (drop i text)))
    → Appends a c (take (i + n) text)
front_more a b c text i n first second =
    rw (take-add i n text) (Appends-trans a b c _ _ first (rw (rest-cut text i) at second))

-- What is within the rest ends within the text.
pub front_within : (text : List ℕ) (i n : ℕ) → i ≤ length text → n ≤ length (take (length text - i) (drop i text))
    → i + n ≤ length text
front_within text i n before within =
    let within_rest = rw (rest-cut text i) at within in
    omega (arith, length-drop i text)
