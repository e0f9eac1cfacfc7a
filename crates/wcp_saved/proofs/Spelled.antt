-- Pieces one after the other, as a loop reads them.
use Rattle.std.proofs.Common.{◌≡◌, ℕ, ◌<◌, ◌≤◌, ◌+◌, ◌*◌, ◌/◌, List, [], ◌∷◌, ◌++◌, length, get_or, map, take, drop}
use Rattle.std.proofs.Common.{refl, sym, ◌∙◌, ap, arith}
use Rattle.std.proofs.Common.{append_assoc}
use Rattle.std.specs.Int.{w64, to_le_bytes}
use Rattle.std.specs.List.{flat_map}
use Rattle.std.specs.Prelude.{All}
use Rattle.std.proofs.lemmas.Grind.{flat_map-append}
use Rattle.std.proofs.lemmas.List.Elements.{All-head, All-tail}
use Rattle.std.proofs.lemmas.List.{append-nil, at_drop_more, drop_all, length-append, map-append, take_all, take_more}
use Rattle.wcp_saved.specs.Spelling.{bytes_of, counted}

pub next_piece : {A B : Type 0} (f : A → List B) (xs : List A) (i : ℕ) (d : A) (rest : List B) → i < length xs
    → flat_map f (drop i xs) ++ rest ≡ f (get_or xs i d) ++ (flat_map f (drop (i + 1) xs) ++ rest)
next_piece {A} {B} f xs i d rest within = at_drop_more (λ (ys : List A). flat_map f ys ++ rest) xs i d within
    ∙ append_assoc (f (get_or xs i d)) (flat_map f (drop (i + 1) xs)) rest

pub taken_more : {A : Type 0} (xs before after : List A) (i : ℕ) (d x : A) → i < length xs → before ≡ take i xs
    → x ≡ get_or xs i d → after ≡ before ++ x ∷ [] → after ≡ take (i + 1) xs
taken_more {A} xs before after i d x within e is pushed = pushed ∙ (λ j. e j ++ is j ∷ [])
    ∙ sym (take_more xs i d within)

-- so many pieces, none of which is empty, have as many elements or more
pub as_long : {A B : Type 0} (f : A → List B) (xs : List A) → ((x : A) → 0 < length (f x))
    → length xs ≤ length (flat_map f xs)
as_long f [] some = omega arith
as_long f (x ∷ xs) some = omega (arith, some x, as_long f xs some, length-append (f x) (flat_map f xs))

-- so many pieces, each of 104 elements or more, have 104 times as many or more
pub as_many : {A B : Type 0} (f : A → List B) (P : A → Type 0) (xs : List A) → ((x : A) → P x → 104 ≤ length (f x))
    → All P xs → 104 * length xs ≤ length (flat_map f xs)
as_many f P [] long all = omega arith
as_many f P (x ∷ xs) long all = omega (
  arith,
  long x (All-head P x xs all),
  as_many f P xs long (All-tail P x xs all),
  length-append (f x) (flat_map f xs),
)

-- the bytes of words are eight times as many
pub length-bytes_of : (words : List ℕ) → length (bytes_of words) ≡ 8 * length words
length-bytes_of [] = refl
length-bytes_of (word ∷ words) =
    omega (arith, length-bytes_of words, length-append (to_le_bytes w64 word) (bytes_of words))

-- all pieces are read
pub all_taken : {A B : Type 0} (f : A → List B) (xs before : List A) (i : ℕ) (words rest : List B) → length xs ≤ i
    → before ≡ take i xs → words ≡ flat_map f (drop i xs) ++ rest → (before ≡ xs) × (words ≡ rest)
all_taken {A} {B} f xs before i words rest past e is = (
  e ∙ take_all i xs past,
  is ∙ ap (λ (ys : List A). flat_map f ys ++ rest) (drop_all i xs past),
)

-- how many words some bytes spell
pub count_is : (words : List ℕ) (rest bytes : List ℕ) → bytes ≡ bytes_of words ++ rest → length rest < 8
    → length bytes / 8 ≡ length words
count_is words rest bytes e short =
    let long : length bytes ≡ 8 * length words + length rest = ap length e ∙ length-append (bytes_of words) rest
    ∙ ap (λ n. n + length rest) (length-bytes_of words) in
    omega (arith, long, short)

-- words that begin with so many pieces are as many or more
pub enough : {A B : Type 0} (f : A → List B) (xs : List A) (rest words : List B) → ((x : A) → 0 < length (f x))
    → words ≡ flat_map f xs ++ rest → length xs ≤ length words
enough f xs rest words some e =
    omega (arith, as_long f xs some, ap length e, length-append (flat_map f xs) rest)

-- what is seen of a list that has one more
pub mapped_more : {A B : Type 0} (f : A → B) (before after : List A) (x : A) → after ≡ before ++ x ∷ []
    → map f after ≡ map f before ++ f x ∷ []
mapped_more f before after x e = ap (map f) e ∙ map-append f before (x ∷ [])

-- one piece more is written
pub written_more : {A B : Type 0} (f : A → List B) (before now after : List B) (xs : List A) (i : ℕ) (d : A)
    → i < length xs → now ≡ before ++ flat_map f (take i xs) → after ≡ now ++ f (get_or xs i d)
    → after ≡ before ++ flat_map f (take (i + 1) xs)
written_more {A} {B} f before now after xs i d within so_far is =
    is ∙ ap (λ (words : List B). words ++ f (get_or xs i d)) so_far
    ∙ append_assoc before (flat_map f (take i xs)) (f (get_or xs i d))
    ∙ ap (λ (words : List B). before ++ words) (sym next)
  where
    next : flat_map f (take (i + 1) xs) ≡ flat_map f (take i xs) ++ f (get_or xs i d)
    next = ap (flat_map f) (take_more xs i d within) ∙ flat_map-append f (take i xs) (get_or xs i d ∷ [])
        ∙ ap (λ (words : List B). flat_map f (take i xs) ++ words) (append-nil (f (get_or xs i d)))

-- the same, of what is seen of each
pub written_more_seen : {A B C : Type 0} (f : C → List B) (g : A → C) (before now after : List B) (xs : List A) (i : ℕ)
    (d : A) → i < length xs → now ≡ before ++ flat_map f (map g (take i xs)) → after ≡ now ++ f (g (get_or xs i d))
    → after ≡ before ++ flat_map f (map g (take (i + 1) xs))
written_more_seen {A} {B} {C} f g before now after xs i d within so_far is =
    written_more (λ x. f (g x)) before now after xs i d within (so_far ∙ seen (take i xs)) is
    ∙ sym (seen (take (i + 1) xs))
  where
    seen : (ys : List A) → before ++ flat_map f (map g ys) ≡ before ++ flat_map (λ x. f (g x)) ys
    seen ys = ap (λ (words : List B). before ++ words) (flat_map_map ys)
      where
        flat_map_map : (zs : List A) → flat_map f (map g zs) ≡ flat_map (λ x. f (g x)) zs
        flat_map_map [] = refl
        flat_map_map (z ∷ zs) = ap (λ (words : List B). f (g z) ++ words) (flat_map_map zs)

-- a list is written behind its length
pub counted_behind : (old pushed now own spelled : List ℕ) (count : ℕ) → pushed ≡ old ++ count ∷ [] → count ≡ length own
    → own ≡ spelled → now ≡ pushed ++ own → now ≡ old ++ counted spelled
counted_behind old pushed now own spelled count is number same written =
    written ∙ ap (λ (words : List ℕ). words ++ own) is ∙ append_assoc old (count ∷ []) own
    ∙ ap (λ n. old ++ n ∷ own) number ∙ ap (λ (words : List ℕ). old ++ counted words) same
