-- The first line of a text.
use Rattle.wcp_io.proofs.Words.{◌≡◌, ◌≢◌, ℕ, List, [], ◌∷◌, ◌++◌, refl, ap, All-head, All-tail, HasNoFeed, line_feed}
use Rattle.wcp_io.proofs.Words.{lines_of, put_in_front}
use Rattle.std.proofs.Common.{ne_eqb}

-- A LF ends the first line.
pub first_to_feed : (line rest : List ℕ) → HasNoFeed line → lines_of (line ++ line_feed ∷ rest) ≡ line ∷ lines_of rest
unfolding lines_of
first_to_feed [] rest clean = refl
first_to_feed (byte ∷ line) rest clean =
    rw (ne_eqb byte 10 (All-head (λ byte. byte ≢ line_feed) byte line clean))
    (ap (put_in_front byte) (first_to_feed line rest (All-tail (λ byte. byte ≢ line_feed) byte line clean)))

-- A byte stands at the front of the first line.
pub record BeginsWith (line : List ℕ) (lines : List (List ℕ)) : Type 0 where
  pub more : List ℕ
  pub later : List (List ℕ)
  pub is : lines ≡ (line ++ more) ∷ later

begins_with_byte : (byte : ℕ) (lines : List (List ℕ)) → BeginsWith (byte ∷ []) (put_in_front byte lines)
begins_with_byte byte [] = record { more = []; later = []; is = refl }
begins_with_byte byte (line ∷ lines) = record { more = line; later = lines; is = refl }

-- Where bytes without LF are the front of a text, they are the front of its first line.
pub begins_with : (byte : ℕ) (line rest : List ℕ) → HasNoFeed (byte ∷ line)
    → BeginsWith (byte ∷ line) (lines_of ((byte ∷ line) ++ rest))
unfolding lines_of
begins_with byte [] rest clean =
    rw (ne_eqb byte 10 (All-head (λ byte. byte ≢ line_feed) byte [] clean)) (begins_with_byte byte (lines_of rest))
begins_with byte (next ∷ line) rest clean =
    let on = begins_with next line rest (All-tail (λ byte. byte ≢ line_feed) byte (next ∷ line) clean) in
    rw (ne_eqb byte 10 (All-head (λ byte. byte ≢ line_feed) byte (next ∷ line) clean))
    (record { more = on.more; later = on.later; is = ap (put_in_front byte) on.is })

-- Bytes without LF are one line.
pub last_line : (byte : ℕ) (line : List ℕ) → HasNoFeed (byte ∷ line) → lines_of (byte ∷ line) ≡ (byte ∷ line) ∷ []
unfolding lines_of
last_line byte [] clean = rw (ne_eqb byte 10 (All-head (λ byte. byte ≢ line_feed) byte [] clean)) refl
last_line byte (next ∷ line) clean =
    rw (ne_eqb byte 10 (All-head (λ byte. byte ≢ line_feed) byte (next ∷ line) clean))
    (ap (put_in_front byte) (last_line next line (All-tail (λ byte. byte ≢ line_feed) byte (next ∷ line) clean)))

-- There is no line in no bytes.
pub none_left : [] ≡ lines_of []
unfolding lines_of
none_left = refl
