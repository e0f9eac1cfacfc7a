-- Where the first LF was found.
use Rattle.wcp_io.proofs.Words.{◌≡◌, ◌≢◌, ◌∙◌, ◌+◌, ◌<◌, ◌≤◌, ℕ, List, ◌∷◌, ◌++◌, length, take, drop, sym, ap, arith}
use Rattle.wcp_io.proofs.Words.{append_assoc, length-take-le, take-append-drop, drop-cons, All-from_get_or}
use Rattle.wcp_io.proofs.Words.{HasNoFeed, line_feed, Nowhere, Passes, is_byte}
use Rattle.std.proofs.Common.{eq-eqb, eqb-true, add-one, suc}
use Rattle.std.proofs.lemmas.List.{get_or-take, drop-append-le}

-- Nothing before the place is a LF.
pub no_feed_before : (bytes : List ℕ) (place : ℕ) → place ≤ length bytes → Nowhere (Passes (is_byte 10) bytes) 0 place
    → HasNoFeed (take place bytes)
no_feed_before bytes place within nowhere =
    All-from_get_or (λ byte. byte ≢ line_feed) (take place bytes) 0 (λ i below is.
    let short : i < place = omega (arith, length-take-le place bytes within) in
    nowhere i (omega arith) short (eq-eqb _ 10 (sym (get_or-take place bytes i 0 short) ∙ is)))

-- The LF that stands there parts the bytes.
pub parted_at_feed : (bytes : List ℕ) (place : ℕ) → place < length bytes → Passes (is_byte 10) bytes place
    → bytes ≡ take place bytes ++ line_feed ∷ drop (place + 1) bytes
parted_at_feed bytes place within passes = rw add-one (
    sym (take-append-drop place bytes)
    ∙ ap (λ l. take place bytes ++ l)
    (drop-cons bytes place 0 within ∙ ap (λ byte. byte ∷ drop (suc place) bytes) (eqb-true _ 10 passes))
    )

-- So does one in the first bytes.
pub parted_in_front : (bytes : List ℕ) (room place : ℕ) → place < length (take room bytes)
    → Passes (is_byte 10) (take room bytes) place
    → bytes ≡ take place (take room bytes) ++ line_feed ∷ drop (place + 1) bytes
parted_in_front bytes room place within passes =
    let front = take room bytes in
    let whole : front ++ drop room bytes ≡ bytes = take-append-drop room bytes in
    let after : drop (place + 1) front ++ drop room bytes ≡ drop (place + 1) bytes =
    sym (drop-append-le (place + 1) front (drop room bytes) (omega arith)) ∙ ap (drop (place + 1)) whole in
    sym whole
    ∙ ap (λ l. l ++ drop room bytes) (parted_at_feed front place within passes)
    ∙ append_assoc (take place front) (line_feed ∷ drop (place + 1) front) (drop room bytes)
    ∙ ap (λ l. take place front ++ line_feed ∷ l) after
