-- What has been given of a line, as parts of it go from the bytes that wait to the line.
use Rattle.wcp_io.proofs.Words.{◌≡◌, ◌≢◌, ◌∙◌, ◌<◌, ◌≤◌, ℕ, Bool, true, false, List, [], ◌∷◌, ◌++◌, Option, Some}
use Rattle.wcp_io.proofs.Words.{None, length, refl, sym, ap, subst, arith, append_assoc, inl, inr, Consumes}
use Rattle.wcp_io.proofs.Words.{prepend_known, Consumes-trans, All-append, line_feed, HasNoFeed, Gives, most_given}
use Rattle.wcp_io.proofs.Words.{Moves, ToFeed, ToCut, Rest, Whole, Prefix, IsFirst, IfSome, IsAtEnd, lines_of, nat_eq}
use Rattle.wcp_io.proofs.Words.{append-nil, length-append}
use Rattle.wcp_io.proofs.Firsts.{first_to_feed, begins_with, last_line, none_left}
use Rattle.std.proofs.lemmas.Bool.Decides.{eqb_tells}
use Rattle.std.proofs.lemmas.List.{nil_from_length}
use Rattle.std.proofs.Common.{true≢false, not}

consumes_prefix : (known : Option (List ℕ)) (front rest waiting : List ℕ) → waiting ≡ front ++ rest
    → Consumes (prepend_known waiting known) (prepend_known rest known) front
consumes_prefix None front rest waiting parts = tt
consumes_prefix (Some bytes) front rest waiting parts = ap (λ l. l ++ bytes) parts ∙ append_assoc front rest bytes

taken_first : (known after : Option (List ℕ)) (line taken : List ℕ) → Consumes known after taken
    → ((rest : List ℕ) → IsFirst (taken ++ rest) line rest)
    → IfSome known (λ bytes. IfSome after (λ rest. IsFirst bytes line rest))
taken_first None after line taken consumed first = tt
taken_first (Some bytes) None line taken consumed first = tt
taken_first (Some bytes) (Some rest) line taken consumed first =
    subst (λ all. IsFirst all line rest) (sym consumed) (first rest)

-- The line is given, once it is whole.
pub gives_to_feed : (known after : Option (List ℕ)) (line : List ℕ) → HasNoFeed line → length line ≤ most_given
    → Consumes known after (line ++ line_feed ∷ []) → Gives known after line
gives_to_feed known after line clean within consumed = record {
  within = within;
  taken = line ++ line_feed ∷ [];
  consumed = consumed;
  first = taken_first known after line (line ++ line_feed ∷ []) consumed
      (λ rest. Whole (ap lines_of (append_assoc line (line_feed ∷ []) rest) ∙ first_to_feed line rest clean));
}

first_of_cut : (line rest : List ℕ) → HasNoFeed line → length line ≡ most_given → IsFirst (line ++ rest) line rest
first_of_cut [] rest clean long = absurd (omega arith)
first_of_cut (byte ∷ line) rest clean long =
    let begins = begins_with byte line rest clean in Prefix begins.more begins.later begins.is long refl

-- So is as much of it as is given of a long one.
pub gives_cut : (known after : Option (List ℕ)) (line : List ℕ) → HasNoFeed line → length line ≡ most_given
    → Consumes known after line → Gives known after line
gives_cut known after line clean long consumed = record {
  within = omega arith;
  taken = line;
  consumed = consumed;
  first = taken_first known after line line consumed (λ rest. first_of_cut line rest clean long);
}

-- What was read of a line is a line at the end of the input.
pub gives_last : (known after : Option (List ℕ)) (line : List ℕ) → HasNoFeed line → length line ≤ most_given
    → 0 < length line → Consumes known after line → IsAtEnd after → Gives known after line
gives_last known after [] clean within some consumed ended = absurd (omega arith)
gives_last None after (byte ∷ line) clean within some consumed ended =
    record { within = within; taken = byte ∷ line; consumed = tt; first = tt }
gives_last (Some bytes) None (byte ∷ line) clean within some consumed ended = absurd consumed
gives_last (Some bytes) (Some rest) (byte ∷ line) clean within some consumed ended = record {
  within = within;
  taken = byte ∷ line;
  consumed = consumed;
  first = rw ended (Whole (ap lines_of (consumed ∙ ap (λ l. (byte ∷ line) ++ l) ended ∙ append-nil (byte ∷ line))
      ∙ last_line byte line clean ∙ ap (λ l. (byte ∷ line) ∷ l) none_left));
}

pub gives_whole : (known input : Option (List ℕ)) (waiting line waiting' line' : List ℕ)
    → Consumes known (prepend_known waiting input) line → HasNoFeed line → Moves waiting line waiting' line' true
    → Gives known (prepend_known waiting' input) line'
gives_whole known input waiting line waiting' line' before clean (ToFeed part part_clean short grown parts) =
    let ending = part ++ line_feed ∷ [] in
    let taken : line ++ ending ≡ line' ++ line_feed ∷ [] =
    sym (append_assoc line part (line_feed ∷ [])) ∙ ap (λ l. l ++ line_feed ∷ []) (sym grown) in
    let now : Consumes (prepend_known waiting input) (prepend_known waiting' input) ending =
    consumes_prefix input ending waiting' waiting (parts ∙ sym (append_assoc part (line_feed ∷ []) waiting')) in
    gives_to_feed known (prepend_known waiting' input) line'
    (subst HasNoFeed (sym grown) (All-append (λ byte. byte ≢ line_feed) line part clean part_clean))
    (omega arith)
    (subst (Consumes known (prepend_known waiting' input)) taken
    (Consumes-trans known (prepend_known waiting input) (prepend_known waiting' input) line ending before now))
gives_whole known input waiting line waiting' line' before clean (ToCut part part_clean long grown parts) =
    gives_cut known (prepend_known waiting' input) line'
    (subst HasNoFeed (sym grown) (All-append (λ byte. byte ≢ line_feed) line part clean part_clean))
    long
    (subst (Consumes known (prepend_known waiting' input)) (sym grown)
    (Consumes-trans known (prepend_known waiting input) (prepend_known waiting' input) line part before
    (consumes_prefix input part waiting' waiting parts)))

-- What is known of a line while it isn't whole.
pub record Begun (known known' : Option (List ℕ)) (line : List ℕ) : Type 0 where
  pub consumed : Consumes known known' line
  pub no_feed : HasNoFeed line
  pub within : length line < most_given

pub goes_on : (known input : Option (List ℕ)) (waiting line waiting' line' : List ℕ)
    → Consumes known (prepend_known waiting input) line → HasNoFeed line → Moves waiting line waiting' line' false
    → Begun known (prepend_known waiting' input) line'
goes_on known input waiting line waiting' line' before clean (Rest rest_clean short grown none) = record {
  consumed = subst (Consumes known (prepend_known waiting' input)) (sym grown)
      (Consumes-trans known (prepend_known waiting input) (prepend_known waiting' input) line waiting before
      (consumes_prefix input waiting waiting' waiting (sym (append-nil waiting) ∙ ap (λ l. waiting ++ l) (sym none))));
  no_feed = subst HasNoFeed (sym grown) (All-append (λ byte. byte ≢ line_feed) line waiting clean rest_clean);
  within = short;
}

-- Where some bytes wait and the line isn't whole, it gets longer.
pub gets_longer : (waiting line waiting' line' : List ℕ) → waiting ≢ [] → Moves waiting line waiting' line' false
    → length line < length line'
gets_longer [] line waiting' line' some moved = absurd (some refl)
gets_longer (byte ∷ bytes) line waiting' line' some (Rest clean short grown none) =
    omega (arith, ap length grown ∙ length-append line (byte ∷ bytes))

-- All that waits goes to the line where there is room for it.
moves_all : (waiting line waiting' line' part : List ℕ) → HasNoFeed part → length line' < most_given
    → line' ≡ line ++ part → waiting ≡ part ++ waiting' → length waiting ≤ length part
    → Moves waiting line waiting' line' false
moves_all waiting line waiting' line' part clean short grown parts all =
    let size = ap length parts ∙ length-append part waiting' in
    let none : waiting' ≡ [] = nil_from_length waiting' (omega arith) in
    let is : part ≡ waiting = sym (append-nil part) ∙ ap (λ l. part ++ l) (sym none) ∙ sym parts in
    Rest (subst HasNoFeed is clean) short (grown ∙ ap (λ l. line ++ l) is) none

-- A part without LF makes the line whole where there is no more room.
pub moves_part : (waiting line waiting' line' part : List ℕ) (n : ℕ) → n ≡ length line' → HasNoFeed part
    → n ≤ most_given → line' ≡ line ++ part → waiting ≡ part ++ waiting'
    → (n < most_given → length waiting ≤ length part) → Moves waiting line waiting' line' (nat_eq n most_given)
moves_part waiting line waiting' line' part n size clean within grown parts all = elim (eqb_tells n most_given) [
  | inl full ↦ subst (Moves waiting line waiting' line') (sym full.0) (ToCut part clean (sym size ∙ full.1) grown parts)
  | inr room ↦ subst (Moves waiting line waiting' line') (sym room.0)
      (moves_all waiting line waiting' line' part clean (omega arith) grown parts (all (omega arith)))
]

-- A text that isn't empty has a byte.
pub some_byte : (empty : Bool) (n : ℕ) → empty ≡ nat_eq n 0 → not empty ≡ true → 0 < n
some_byte empty n said there = elim (eqb_tells n 0) [
  | inl none ↦ absurd (true≢false (sym there ∙ ap not (said ∙ none.0)))
  | inr some ↦ omega (arith, some.1)
]

pub at_end : (ahead : List ℕ) (input : Option (List ℕ)) → ahead ≡ [] → IsAtEnd input
    → IsAtEnd (prepend_known ahead input)
at_end ahead None none ended = tt
at_end ahead (Some bytes) none ended = ap (λ l. l ++ bytes) none ∙ ended
