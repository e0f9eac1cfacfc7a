-- A cut that was read, or none.
use Rattle.std.proofs.Common.{◌≡◌, ◌≢◌, ℕ, ◌<◌, ◌≤◌, ◌^◌, List, [], ◌++◌, length, take, Option, Some, None, refl, ap}
use Rattle.std.proofs.Common.{◌∙◌, arith}
use Rattle.std.specs.Prelude.{All, IfSome}
use Rattle.wcp_saved.specs.Spelling.{counted, cut_words, IsClock}

-- what a reader of a counted list says
abbrev pub ReadsCounted : List ℕ → List ℕ → ℕ → List ℕ → Type 0
ReadsCounted words numbers count after = (values rest : List ℕ) → length values ≤ 16
    → All (λ number. number < 2 ^ 32) values → words ≡ counted values ++ rest
    → (count ≡ length values) × (take count numbers ≡ values) × (after ≡ rest)

no_values : All (λ number. number < 2 ^ 32) []
no_values k d within = absurd (omega (arith, within))

pub none_read : (found : Option (List ℕ)) (rest words numbers : List ℕ) (count : ℕ) (after : List ℕ)
    → IfSome found IsClock → words ≡ cut_words found ++ rest → ReadsCounted words numbers count after → count ≡ 0
    → (None ≡ found) × (after ≡ rest)
none_read None rest words numbers count after is e reads none =
    (refl, (reads [] rest (omega arith) no_values e).2)
none_read (Some values) rest words numbers count after is e reads none =
    absurd (omega (arith, (reads values rest is.few is.each e).0, is.some, none))

pub some_read : (found : Option (List ℕ)) (rest words numbers : List ℕ) (count : ℕ) (after made : List ℕ)
    → IfSome found IsClock → words ≡ cut_words found ++ rest → ReadsCounted words numbers count after → count ≢ 0
    → made ≡ take count numbers → (Some made ≡ found) × (after ≡ rest)
some_read None rest words numbers count after made is e reads some new =
    absurd (some (reads [] rest (omega arith) no_values e).0)
some_read (Some values) rest words numbers count after made is e reads some new =
    let read = reads values rest is.few is.each e in
    (ap Some (new ∙ read.1), read.2)
